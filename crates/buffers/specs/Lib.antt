-- What the shared loops over sample buffers leave.
pub mod Buffers
