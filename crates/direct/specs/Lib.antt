-- A loss on a caller's own memory.
pub mod Direct
