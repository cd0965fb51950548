-- The last cycle of an excitation repeated.
pub mod Copy
