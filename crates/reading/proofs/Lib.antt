pub mod Parts
pub mod Stands
pub mod Sets
pub mod F64s
