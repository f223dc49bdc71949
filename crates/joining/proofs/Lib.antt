pub mod Filling
pub mod Joins
