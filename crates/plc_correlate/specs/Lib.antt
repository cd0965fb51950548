-- What the correlations of the lag search are.
pub mod Correlation
