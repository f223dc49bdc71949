pub mod Ways
pub mod Validities
pub mod Passes
pub mod Places
pub mod Ranges
