pub mod Cause
pub mod Inside
pub mod Journal
pub mod Reading
pub mod Steps
