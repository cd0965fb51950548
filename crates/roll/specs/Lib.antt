-- What a frame leaves of a channel's newest samples.
pub mod Roll
