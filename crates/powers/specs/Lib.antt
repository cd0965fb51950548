-- The fractional powers of two.
pub mod Powers
pub mod Nearest
