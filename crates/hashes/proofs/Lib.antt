pub mod Rights
pub mod Entries
pub mod Branch
pub mod Pins
