pub mod Goes
pub mod ByKind
pub mod Calling
pub mod Parts
pub mod Restarting
