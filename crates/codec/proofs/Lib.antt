pub mod Signs
pub mod Turns
