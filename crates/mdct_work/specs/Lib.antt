-- The sums of the inverse transform, with the products that they take.
pub mod Work
