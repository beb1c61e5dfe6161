pub mod Jobs
pub mod Lent
pub mod Calls
