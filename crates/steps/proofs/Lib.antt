pub mod Fields
pub mod Signs
pub mod Sums
pub mod Lengths
