pub mod Places
pub mod Rows
pub mod Gathered
pub mod Seen
pub mod ReadRows
