-- What both filters of plc.rs read behind their place, and the buffer that holds it.
pub mod Past
pub mod Pad
