-- What a pitch loss repeats, in the Rust's order: decay, cycle.
pub mod Decay
pub mod Cycle
