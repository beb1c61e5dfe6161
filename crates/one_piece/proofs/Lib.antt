pub mod Rule
pub mod AreaPiece
pub mod PlatePiece
pub mod PlateTests
pub mod PlateFits
pub mod Answers
