-- Laws that the proofs of this crate, and of those that read its sums, cite.
pub mod Lent
pub mod PairLanes
pub mod Steps
pub mod Takes
pub mod Two
mod Eights
