-- Noise at unit energy in the bands.
pub mod Shape
