-- The circle of cosines in pairs.
pub mod Pairs
