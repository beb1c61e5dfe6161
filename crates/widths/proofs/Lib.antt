pub mod Rule
pub mod Bounds
pub mod Sums
pub mod Pieces
pub mod Halvings
pub mod Strips
pub mod Totals
