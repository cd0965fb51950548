-- The cosines of a quadrant, and what is shown of the whole table.
pub mod Cosines
pub mod Scaled
pub mod Rules
