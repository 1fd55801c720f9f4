pub mod Counts
pub mod Inside
pub mod Lists
pub mod Places
