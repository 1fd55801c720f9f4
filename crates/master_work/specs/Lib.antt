pub mod Parts
pub mod State
pub mod Answers
pub mod Changes
