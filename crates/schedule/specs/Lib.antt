pub mod Schedule
pub mod Running
pub mod Working
