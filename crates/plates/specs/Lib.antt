pub mod Integrals
pub mod Plates
