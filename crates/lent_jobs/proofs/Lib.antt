pub mod Sized
pub mod Copying
pub mod Laws
pub mod Unchanged
