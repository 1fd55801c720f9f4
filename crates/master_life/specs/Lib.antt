pub mod SeenLife
pub mod Moves
