pub mod Machine
pub mod Engine
pub mod Whole
pub mod Tables
