pub mod NoteLemmas
pub mod MessageLemmas
