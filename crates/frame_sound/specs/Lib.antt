-- The sound of a frame.
pub mod FrameSound
