mod Tolds
pub mod Leads
pub mod Firsts
pub mod Lents
