-- Which energies a noise loss reads, and which drop.
pub mod Energies
