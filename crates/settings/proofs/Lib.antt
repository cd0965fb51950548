pub mod Passed
pub mod Table
