mod Frames
pub mod Takes
