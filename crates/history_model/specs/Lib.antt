pub mod History
pub mod Bounds
pub mod Images
pub mod Blocks
