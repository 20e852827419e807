-- Laws for callers, of a cell in its byte, of copies, of bits that are put, of whole bytes, and of the machine's cells; and the pins of the public calls.
pub mod Bytes
pub mod Copies
pub mod Machine
pub mod Parts
pub mod Pins
pub mod Runs
