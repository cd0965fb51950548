-- laws that several proofs cite
mod Lags
