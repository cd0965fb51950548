pub mod Whole
pub mod Same
