-- A tail after a frame came in.
pub mod TakeIn
