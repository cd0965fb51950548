-- A record's bytes as a state and its history, and back.
pub mod Record
