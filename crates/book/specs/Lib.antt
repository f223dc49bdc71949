pub mod Record
pub mod Validity
