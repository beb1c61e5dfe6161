pub mod Angles
pub mod FilletSections
pub mod Fillets
pub mod Numbered
