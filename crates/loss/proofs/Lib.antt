pub mod Fields
pub mod Lags
pub mod Laws
pub mod Keep
pub mod Samples
pub mod Call
