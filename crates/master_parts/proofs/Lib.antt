pub mod TableLemmas
pub mod SetLemmas
