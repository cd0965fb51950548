-- laws that the callers cite too
pub mod Steps
