-- The layout of a history, and its tails: what a loss may change.
pub mod History
