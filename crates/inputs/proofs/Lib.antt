pub mod Joining
pub mod Keeping
pub mod Lengths
pub mod Lines
pub mod Taking
