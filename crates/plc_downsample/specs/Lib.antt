-- The downsampling ahead of the lag search.
pub mod Downsample
