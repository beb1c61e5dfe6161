pub mod WordBytes
pub mod Steps
pub mod Choices
pub mod Repeats
pub mod F64s
