-- Runs of calls, and what they can depend on; document 01's marked examples; lines of it that hold of any call.
pub mod Run
pub mod Marked
pub mod Kept
