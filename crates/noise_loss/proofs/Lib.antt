pub mod Channels
mod Halves
mod Sizes
