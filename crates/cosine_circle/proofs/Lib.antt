pub mod Quadrants
pub mod Sizes
pub mod Circles
