pub mod Looping
pub mod Simulating
pub mod Ledgers
pub mod Refusing
pub mod Promises
pub mod Turning
pub mod Beginning
pub mod Within
