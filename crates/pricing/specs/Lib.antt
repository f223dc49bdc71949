pub mod Verdict
pub mod Rounding
pub mod Holding
pub mod Carrying
pub mod Passing
pub mod Indexing
