pub mod ItemLemmas
pub mod GroupLemmas
