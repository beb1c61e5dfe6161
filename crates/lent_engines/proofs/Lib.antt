pub mod Eight
pub mod Parts
pub mod Screens
pub mod Engines
pub mod Calls
pub mod Zeros
pub mod Submissions
