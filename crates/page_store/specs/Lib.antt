pub mod Answers
pub mod Store
