pub mod GroupSizes
pub mod Sizes
