pub mod SameNumbers
pub mod Six
