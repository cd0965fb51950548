-- A float with its sign turned.
pub mod Turned
