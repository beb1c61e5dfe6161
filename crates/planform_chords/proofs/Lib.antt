pub mod Pairs
pub mod Start
pub mod Answer
pub mod Tip
