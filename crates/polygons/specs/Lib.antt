pub mod Polygons
pub mod Bounds
