pub mod OnePiece
