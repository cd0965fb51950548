mod Steps
pub mod Fitting
