pub mod Words
pub mod Filled
pub mod Tables
pub mod Cards
pub mod Steps
