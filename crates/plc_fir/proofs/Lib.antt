-- laws that several proofs cite
mod Firs
mod Taps
