-- The head of an answer.
pub mod Head
