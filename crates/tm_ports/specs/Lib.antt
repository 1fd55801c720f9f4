pub mod Calls
pub mod Faults
pub mod Found
pub mod Lines
pub mod Memory
pub mod Statuses
pub mod Writes
