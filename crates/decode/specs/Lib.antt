-- What the answers say, how a node is read before its bytes, and what reading leaves in the stores.
pub mod Answers
pub mod Heads
pub mod Stores
