pub mod Causes
pub mod Claims
pub mod Codes
pub mod Inside
pub mod Log
pub mod Runs
pub mod World
