pub mod Vectors
pub mod Matrices
pub mod Tensors
pub mod Bodies
pub mod Layout
pub mod Nine
