mod Laws
pub mod Calls
