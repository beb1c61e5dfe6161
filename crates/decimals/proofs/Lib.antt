pub mod Powers
pub mod Signs
pub mod Long
pub mod Steps
