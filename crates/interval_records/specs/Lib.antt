pub mod Layout
pub mod Record
pub mod InOrder
pub mod Working
