pub mod Steps
pub mod Plain
pub mod Ways
pub mod Unpadded
pub mod Types
pub mod Sound
pub mod Prefix
pub mod Pins
