pub mod Exact
pub mod Coming
pub mod Promise
