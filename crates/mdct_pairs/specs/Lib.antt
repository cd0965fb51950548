-- The sums of the inverse transform, by pairs.
pub mod Pairs
pub mod Inputs
