-- The pitch loss with the Rust's forward `comb_filter`, and that it is the pitch loss without it.
pub mod Forward
pub mod Loss
