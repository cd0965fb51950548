pub mod End
pub mod Call
