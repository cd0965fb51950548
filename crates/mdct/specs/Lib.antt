-- The inverse transform.
pub mod Imdct
