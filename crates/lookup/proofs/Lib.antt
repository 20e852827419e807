pub mod Lookup
pub mod Pins
