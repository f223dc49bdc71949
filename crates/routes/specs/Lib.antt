pub mod Limits
pub mod Links
pub mod Lent
pub mod Routes
pub mod Search
