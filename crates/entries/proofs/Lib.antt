mod Bads
mod Afters
pub mod Accepted
pub mod Unmoved
mod Verdicts
pub mod Unused
pub mod Founds
