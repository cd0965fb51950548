-- One loss: what `decode_lost` computes, and what every call is known to do.
pub mod Loss
pub mod Call
