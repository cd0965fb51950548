-- What the all-pole filter of plc.rs computes.
pub mod Iir
