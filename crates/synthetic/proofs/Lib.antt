pub mod Seeds
pub mod Ways
pub mod Places
pub mod Passes
pub mod Cases
