mod Roots
mod Sqrt
mod Classify
pub mod Nearest
pub mod Settled
