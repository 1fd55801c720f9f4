pub mod Closes
pub mod Statements
pub mod CutRows
