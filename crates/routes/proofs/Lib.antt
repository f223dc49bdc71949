pub mod Limits
pub mod Carries
pub mod Routes
pub mod Simples
pub mod Sizes
pub mod Links
