-- What follows a frame, folded into the overlap.
pub mod Fold
