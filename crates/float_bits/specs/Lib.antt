-- What the float helpers compute, over the kit's account of IEEE 754.
pub mod Words
pub mod Noise
pub mod Steps
