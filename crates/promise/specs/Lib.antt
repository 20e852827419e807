pub mod Outcomes
pub mod Parts
