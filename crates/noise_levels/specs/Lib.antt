-- How loud each band of a lost frame's noise is, before its gains.
pub mod Bands
pub mod Loss
