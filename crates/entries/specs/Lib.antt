pub mod Checking
pub mod Entering
pub mod Working
pub mod Unused
