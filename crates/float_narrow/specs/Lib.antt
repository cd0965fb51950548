-- An f64 to the nearest f32, over the kit's account of IEEE 754.
pub mod Narrow
pub mod Clause
pub mod Steps
pub mod Marked
