pub mod Rules
pub mod Pins
