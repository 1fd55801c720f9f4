pub mod WriteLemmas
pub mod StopLemmas
