-- What a decoder carries, which states and buffers are refused, and what a call answers.
pub mod State
pub mod Refusal
pub mod Answer
