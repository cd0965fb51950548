-- The whitening ahead of the lag search.
pub mod Whiten
