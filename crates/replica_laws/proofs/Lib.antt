pub mod LeastLemmas
pub mod RunLemmas
pub mod LifeLemmas
pub mod RepeatLemmas
pub mod CutLemmas
pub mod OwnLemmas
pub mod AliveLemmas
pub mod GoesLemmas
