pub mod Sized
pub mod Numbered
