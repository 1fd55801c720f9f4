pub mod Inside
pub mod Lends
pub mod Change
