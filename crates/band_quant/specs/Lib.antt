-- How a band is brought to unit energy.
pub mod Renormalise
pub mod Floor
pub mod Zeros
