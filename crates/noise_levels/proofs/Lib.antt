-- How loud each band of a lost frame's noise is.
pub mod Bands
mod Given
pub mod Loss
