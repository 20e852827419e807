pub mod Sections
pub mod Wrong
