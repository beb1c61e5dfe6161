pub mod Tubes
pub mod Closing
