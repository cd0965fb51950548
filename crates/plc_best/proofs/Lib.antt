-- laws that several proofs cite
mod Turn
pub mod Pairs
-- the first so many of a row
pub mod Counts
