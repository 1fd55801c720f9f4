pub mod KeyLemmas
pub mod PlacedLemmas
