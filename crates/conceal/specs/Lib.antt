-- One turn of the program.
pub mod Turn
