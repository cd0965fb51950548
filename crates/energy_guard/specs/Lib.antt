-- The guard on the energy of a synthesis.
pub mod Guard
