pub mod Nearest
pub mod Modulo
pub mod Exact
pub mod Bits
pub mod Product
pub mod Values
