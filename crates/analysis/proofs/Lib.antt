pub mod Sums
pub mod HeldRows
pub mod Tables
pub mod Whole
pub mod Programs
pub mod Stage
pub mod Pins
