-- Two channels of the all-pole filter.
pub mod Pair
