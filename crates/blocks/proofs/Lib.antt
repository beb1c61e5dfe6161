pub mod Growing
pub mod Reading
pub mod Bars
pub mod Pieces
pub mod Whole
pub mod Said
