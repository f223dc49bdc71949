pub mod AnyOrder
pub mod Earlier
pub mod Rewriting
pub mod Working
