-- What the counted sums are, and how many products they take.
pub mod Works
