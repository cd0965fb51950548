-- Laws that the proofs of this crate cite.
pub mod Angles
pub mod Fronts
pub mod Lanes
pub mod Terms
