pub mod Chains
pub mod Runs
pub mod Schedules
pub mod Cases
