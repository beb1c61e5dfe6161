pub mod Matching
pub mod Cursors
