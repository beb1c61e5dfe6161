pub mod Handing
pub mod Silence
pub mod Scratch
pub mod AtFirst
pub mod Screens
pub mod F64s
pub mod Cards
