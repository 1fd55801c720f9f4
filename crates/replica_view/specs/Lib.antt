pub mod Replica
pub mod Answers
