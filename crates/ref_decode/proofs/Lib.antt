mod Paths
mod Entry
