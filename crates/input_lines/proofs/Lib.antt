pub mod Cutting
pub mod Keeping
pub mod Taking
