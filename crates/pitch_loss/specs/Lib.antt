-- What a pitch loss does to a whole history.
pub mod PitchLoss
