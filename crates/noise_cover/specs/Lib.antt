-- A noise block over a channel's newest samples.
pub mod Cover
