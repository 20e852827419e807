pub mod Records
pub mod Laws
pub mod Check
pub mod Core
pub mod Sound
pub mod Parts
pub mod Words
pub mod Pins
