pub mod Significant
pub mod Digits
pub mod Printed
