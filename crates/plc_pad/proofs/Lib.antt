-- laws that the filters cite
pub mod Taps
