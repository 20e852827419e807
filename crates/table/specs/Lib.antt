pub mod Answers
pub mod Lent
pub mod Walking
pub mod Stage
