-- The linear predictor.
pub mod Lpc
