pub mod Disk
pub mod Fuse
pub mod History
pub mod MemoryDisk
pub mod MemoryPast
