-- laws that several proofs cite
pub mod Rows
