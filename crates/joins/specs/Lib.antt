pub mod Flat
pub mod Joins
pub mod Lists
pub mod Nine
