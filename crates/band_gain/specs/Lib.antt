-- The gain of a band.
pub mod Gain
pub mod Floor
pub mod Marked
