pub mod KindNumbers
pub mod Stages
pub mod Judged
pub mod Alike
pub mod Pins
