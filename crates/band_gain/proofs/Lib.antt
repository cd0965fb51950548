mod Wholes
mod Floor
mod Limits
mod Gains
