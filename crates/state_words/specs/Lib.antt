-- A state as 32-bit words.
pub mod Words
