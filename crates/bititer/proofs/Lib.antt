-- Laws for callers, of bits in bytes, of a slice's stream and of each reader; and the pins of the public calls.
pub mod Tests
pub mod Missing
pub mod Bits
pub mod Streams
pub mod Naturals
pub mod Octets
pub mod Windows
pub mod Table
pub mod Closing
pub mod Pins
