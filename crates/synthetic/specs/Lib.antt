pub mod Synthetic
pub mod Passing
