pub mod Acks
pub mod Inside
pub mod Log
pub mod TakenBack
