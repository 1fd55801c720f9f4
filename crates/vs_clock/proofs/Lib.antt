pub mod PlaceLemmas
pub mod ChainLemmas
pub mod StampLemmas
pub mod StateLemmas
pub mod DurableLemmas
pub mod CauseLemmas
pub mod LearntLemmas
