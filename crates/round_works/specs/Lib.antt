pub mod Samples
pub mod Shelves
pub mod Seen
