pub mod Texts
pub mod Asking
pub mod Capped
pub mod Fitting
pub mod Served
