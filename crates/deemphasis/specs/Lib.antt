-- De-emphasis and PCM.
pub mod Deemphasis
