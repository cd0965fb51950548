-- What both predictors of the Rust do to their correlations first.
pub mod LagWindow
