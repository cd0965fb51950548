-- The pre-filter of the overlap.
pub mod Prefilter
