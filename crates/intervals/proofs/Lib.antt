pub mod Lasts
pub mod Intervals
pub mod Readings
pub mod Sizes
pub mod Ways
pub mod Places
