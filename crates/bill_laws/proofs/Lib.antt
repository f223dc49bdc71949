pub mod Agreeing
pub mod Answers
pub mod Numbers
pub mod Enough
pub mod Cases
