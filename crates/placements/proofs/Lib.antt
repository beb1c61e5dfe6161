pub mod Counts
pub mod Placing
