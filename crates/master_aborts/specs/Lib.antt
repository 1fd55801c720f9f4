pub mod Undone
pub mod Aborted
