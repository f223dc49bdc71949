pub mod Calls
pub mod Ledger
pub mod Book
pub mod Demand
