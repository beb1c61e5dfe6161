pub mod Text
pub mod Tokens
pub mod Places
pub mod Found
