pub mod Billing
pub mod Working
