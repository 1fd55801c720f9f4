pub mod State
pub mod Step
pub mod Moves
pub mod Runs
pub mod Facts
pub mod Goes
pub mod Told
