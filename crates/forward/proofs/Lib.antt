mod Unseen
pub mod Same
