pub mod Counting
pub mod AnyOrder
pub mod Verdicts
pub mod Places
pub mod Rewrites
pub mod Forms
pub mod Cases
