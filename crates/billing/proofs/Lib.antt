pub mod Days
mod Judging
pub mod Places
