pub mod Order
pub mod State
pub mod Step
pub mod Reads
pub mod Told
