-- The mirrored sums, the theorem, and what the proofs of this crate's code cite.
pub mod Mirror
pub mod Same
pub mod Calls
pub mod Halves
