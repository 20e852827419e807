-- What the readers' answers say, the parts of a natural's code, and windows.
pub mod Answers
pub mod Parts
pub mod Windows
