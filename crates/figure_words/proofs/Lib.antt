pub mod Digits
pub mod Shapes
pub mod Runs
pub mod Words
pub mod RoundTrip
pub mod Examples
