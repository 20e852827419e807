pub mod Shapes
pub mod Bits
