pub mod Saving
pub mod Wanting
pub mod Ends
