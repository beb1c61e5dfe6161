pub mod NoJob
pub mod Engines
pub mod Calls
