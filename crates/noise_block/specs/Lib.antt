-- A noise block.
pub mod Block
pub mod Call
