pub mod Windows
pub mod Periods
pub mod Working
