-- Rust's `f32::min` and `f32::max`, over the kit's account of IEEE 754.
pub mod Extremes
