pub mod Hashes
pub mod Branch
