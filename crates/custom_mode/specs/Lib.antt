-- The standard mode at 48 kHz, and the output rates.
pub mod Mode
pub mod Bands
pub mod Rate
pub mod Marked
