pub mod Answers
pub mod Content
pub mod Inside
pub mod Order
pub mod Places
