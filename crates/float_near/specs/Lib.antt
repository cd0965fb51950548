-- How near a rounded result lies to the exact one.
pub mod Near
pub mod Rounded
