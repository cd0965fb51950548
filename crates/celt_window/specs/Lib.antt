-- The window: its values, the long window around a frame, and its rules.
pub mod Window
pub mod LongWindow
pub mod WindowRules
