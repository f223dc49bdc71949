pub mod Playing
pub mod Fed
