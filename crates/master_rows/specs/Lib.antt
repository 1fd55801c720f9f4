pub mod Gates
pub mod Ways
pub mod Stands
