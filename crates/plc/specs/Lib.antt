-- The autocorrelation of plc.rs.
pub mod Const
pub mod Autocorr
