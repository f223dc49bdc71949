pub mod Storing
pub mod Loading
pub mod Same
pub mod Working
