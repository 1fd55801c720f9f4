pub mod Maps
pub mod Orders
pub mod Records
pub mod Sizes
pub mod Vectors
