pub mod Calls
pub mod JobCalls
pub mod EngineCalls
pub mod LineCalls
