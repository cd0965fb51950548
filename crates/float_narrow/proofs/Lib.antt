pub mod Laws
mod Nearer
mod Clause
mod Magnitude
mod Decode
