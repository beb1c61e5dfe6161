pub mod Figures
pub mod Areas
pub mod Answers
pub mod Numbered
