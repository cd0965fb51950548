-- The lag that a first pitch loss finds.
pub mod Lag
