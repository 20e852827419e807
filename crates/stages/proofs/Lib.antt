pub mod Lent
pub mod Passed
pub mod Typing
pub mod Pins
