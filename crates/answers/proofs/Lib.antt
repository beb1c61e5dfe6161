pub mod Pieces
pub mod Filling
pub mod Lengths
