pub mod Setting
pub mod Opening
pub mod Report
