pub mod Disk
pub mod World
pub mod Past
pub mod Nodes
pub mod Step
