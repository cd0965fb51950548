-- laws that several proofs cite
mod Finer
mod Steps
