-- The circle of cosines that a frame size reads.
pub mod Circle
