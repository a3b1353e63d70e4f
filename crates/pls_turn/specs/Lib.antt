pub mod Turns
pub mod TurnRule
pub mod Passes
pub mod TurnSeats
