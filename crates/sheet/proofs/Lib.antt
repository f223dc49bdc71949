pub mod Puts
pub mod Sheets
pub mod Loads
