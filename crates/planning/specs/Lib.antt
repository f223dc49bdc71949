pub mod Left
pub mod Meaning
pub mod Working
