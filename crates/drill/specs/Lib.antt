pub mod Drill
pub mod InSteps
