mod Ways
pub mod Steps
