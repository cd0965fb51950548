-- How the newest samples are continued, in the Rust's order: repeated cycle, fade, all-pole filter, guard.
pub mod Extrapolate
