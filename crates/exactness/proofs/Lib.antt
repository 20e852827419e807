-- The laws that hold of what specs/ defines: that the checks accept exactly what the report says, part by part, and of a whole program.
pub mod Naturals
pub mod Walk
pub mod WalkCounts
pub mod Places
pub mod Canonical
pub mod TypeTests
pub mod Arrows
pub mod Stream
pub mod Coding
pub mod Reading
pub mod Decoding
pub mod Pins
