pub mod Holdings
pub mod Roundings
pub mod Carries
pub mod Passings
pub mod Indexes
pub mod Cases
