pub mod Least
pub mod Steps
pub mod Ways
pub mod Brought
pub mod Places
