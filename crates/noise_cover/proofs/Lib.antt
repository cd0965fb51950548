mod Laws
pub mod Tails
