-- Laws that the proofs of this crate, and of those that read its pairs, cite.
pub mod Turns
pub mod Pairs
