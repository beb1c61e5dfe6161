pub mod Sizes
pub mod Directions
pub mod Corners
