-- The linked library's version.
pub mod Version
