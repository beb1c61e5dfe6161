pub mod Runs
pub mod Flat
pub mod StripCount
pub mod Reports
pub mod Owned
pub mod Rising
pub mod Answers
pub mod Widths
