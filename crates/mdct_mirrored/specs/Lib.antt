-- The inverse transform by half of its sums.
pub mod Mirrored
