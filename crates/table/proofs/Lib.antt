pub mod Tests
pub mod Groups
pub mod KindNumbers
pub mod Hashes
pub mod Steps
pub mod AnyBits
pub mod Stages
pub mod Pins
