mod Noise
pub mod Limits
pub mod Marked
pub mod Kept
