-- How loud the noise of a lost frame is, before its gains.
pub mod Energy
pub mod Loudness
