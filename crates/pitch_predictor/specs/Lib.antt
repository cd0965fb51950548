-- The predictors of a whole history.
pub mod Predictor
