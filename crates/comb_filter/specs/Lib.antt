-- The comb filter.
pub mod Comb
