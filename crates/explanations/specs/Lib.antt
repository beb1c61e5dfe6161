pub mod Places
pub mod Faults
pub mod Endings
pub mod Examples
pub mod Explanations
