pub mod Lists
pub mod Records
pub mod Tallies
pub mod Files
