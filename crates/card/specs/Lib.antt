pub mod Laws
pub mod Program
pub mod Screens
pub mod Cards
