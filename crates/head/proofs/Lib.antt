pub mod Counts
pub mod Fronts
pub mod Heads
pub mod Rows
pub mod Tails
