-- What the two-best tracker of plc.rs computes.
pub mod Best
