pub mod Numbers
pub mod Places
pub mod AllPieces
pub mod Added
pub mod Scores
pub mod Downward
