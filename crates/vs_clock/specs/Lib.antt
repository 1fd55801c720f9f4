pub mod State
pub mod Run
pub mod Causes
pub mod Laws
pub mod Learnt
