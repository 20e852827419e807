pub mod Digits
pub mod KindKeys
pub mod Chains
pub mod Lent
pub mod Pins
