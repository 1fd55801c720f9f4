pub mod Claims
pub mod Reach
pub mod Logs
