pub mod Ways
pub mod Kept
