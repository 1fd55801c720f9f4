pub mod ListLemmas
pub mod WalkLemmas
pub mod TagLemmas
pub mod EndLemmas
pub mod ReleaseLemmas
pub mod AckLemmas
