pub mod Wholes
pub mod Reach
pub mod Checks
