pub mod Wholes
pub mod Says
pub mod Heads
pub mod InOrder
pub mod Verdicts
pub mod Places
