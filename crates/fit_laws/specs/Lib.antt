-- Lists of f32 values.
pub mod Values
