pub mod Base
pub mod Lists
pub mod Bytes
pub mod Tables
