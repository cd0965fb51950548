-- The f32 square root.
pub mod Root
pub mod Steps
pub mod Marked
