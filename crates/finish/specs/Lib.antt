-- The end of a call.
pub mod Finish
pub mod Call
