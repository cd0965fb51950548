-- The window that one of the two autocorrelations of plc.rs puts on its samples.
pub mod Window
