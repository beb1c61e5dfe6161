pub mod Values
pub mod Rounding
pub mod Exact
pub mod Laws
pub mod Counted
pub mod Fits
