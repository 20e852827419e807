pub mod Moves
pub mod InPlace
pub mod Records
pub mod Pins
