pub mod Places
pub mod Redo
