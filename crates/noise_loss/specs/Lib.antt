-- A noise loss: the blocks over a history.
pub mod Loss
