pub mod Keys
pub mod Buckets
