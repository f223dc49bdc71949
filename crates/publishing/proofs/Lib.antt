pub mod Places
pub mod Changes
pub mod Ranges
pub mod Limits
pub mod Regions
pub mod Crossing
pub mod Unused
pub mod Bounded
