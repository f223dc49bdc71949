pub mod Counted
pub mod Layout
pub mod Working
