pub mod Parts
pub mod Theorem
pub mod Cases
