pub mod Lent
pub mod Positions
pub mod Answers
