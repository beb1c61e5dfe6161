pub mod Lanes
pub mod Bytes
pub mod Words
pub mod Reading
pub mod Printing
pub mod RoundTrip
