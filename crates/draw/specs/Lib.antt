-- What is drawn for a lost frame's noise.
pub mod Draw
pub mod Noise
pub mod Marked
