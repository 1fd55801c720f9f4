pub mod Holders
pub mod Touched
