-- The spectrum of a noise block.
pub mod Spectrum
