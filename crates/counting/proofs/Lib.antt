pub mod Picks
mod Moves
mod Marks
mod Stages
mod Takings
