pub mod RoundTrips
pub mod Cases
pub mod Writes
pub mod Places
