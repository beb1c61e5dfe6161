pub mod Sums
pub mod Angles
pub mod Turns
pub mod Sections
