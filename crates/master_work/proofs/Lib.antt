pub mod LogLemmas
pub mod SessionLemmas
pub mod ChangeLemmas
