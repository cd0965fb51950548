-- What the all-zero filter of plc.rs computes.
pub mod Fir
