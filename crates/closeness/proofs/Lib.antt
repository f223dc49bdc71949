pub mod Errors
pub mod Routes
pub mod Theorem
pub mod Cases
