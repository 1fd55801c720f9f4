pub mod LeaseLemmas
pub mod ImageLemmas
pub mod RecallLemmas
pub mod TagLemmas
