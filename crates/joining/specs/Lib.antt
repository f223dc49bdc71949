pub mod Joined
pub mod Working
