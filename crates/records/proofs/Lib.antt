pub mod Readings
pub mod Written
