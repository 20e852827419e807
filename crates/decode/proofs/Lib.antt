-- The laws of reading a node's head and its bytes, of records and zeros in stores, of decoding as a whole;
-- what the promise of the public call tells, its pin, and what an accepted program is.
pub mod Heads
pub mod Records
pub mod Nodes
pub mod Tables
pub mod Pins
pub mod Promise
pub mod Accepted
