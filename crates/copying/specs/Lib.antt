-- What a copy leaves.
pub mod Copy
