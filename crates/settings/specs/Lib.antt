-- The settings of a stream, and the numbers of refusals.
pub mod Number
pub mod Settings
