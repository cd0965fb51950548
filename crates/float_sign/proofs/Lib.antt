-- Turning a float's sign, through products, sums and the step to f32.
pub mod Rounding
pub mod PlusZero
pub mod Sign
