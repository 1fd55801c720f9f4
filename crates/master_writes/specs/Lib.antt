pub mod Values
pub mod Stops
pub mod Written
