pub mod Entry
pub mod Basis
pub mod Effective
pub mod Capped
pub mod Bounds
pub mod Published
pub mod Working
