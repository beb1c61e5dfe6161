pub mod Areas
pub mod Centroids
pub mod Masses
pub mod Balances
pub mod Inertias
pub mod Tips
