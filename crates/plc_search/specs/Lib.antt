-- What the lag search computes: the coarse and the finer sweep.
pub mod Search
pub mod Rows
pub mod Offset
