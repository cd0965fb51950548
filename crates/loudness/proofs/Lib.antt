-- How loud each drawn band is.
mod Numbers
mod Sum
mod Factor
mod Samples
pub mod Loudness
pub mod Tight
