pub mod Told
pub mod Pins
