-- How near each float operation comes to its exact result.
pub mod Half
pub mod Operations
