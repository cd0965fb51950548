-- 32-bit words and floats as bytes.
pub mod Bytes
