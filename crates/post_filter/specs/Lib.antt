-- The post-filter's setting, its limits, and the factors of its taps.
pub mod Limits
pub mod Gains
