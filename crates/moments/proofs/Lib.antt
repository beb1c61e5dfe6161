pub mod Sweeps
pub mod FirstStep
