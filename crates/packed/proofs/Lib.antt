pub mod Lists
pub mod Records
pub mod Pins
