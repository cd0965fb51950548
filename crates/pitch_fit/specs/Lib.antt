-- The predictor that a first pitch loss fits to a channel.
pub mod Fit
