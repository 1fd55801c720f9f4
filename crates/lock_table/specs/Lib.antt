pub mod Tags
pub mod Inside
pub mod Moving
pub mod Putting
