pub mod PoolLemmas
pub mod ChangeLemmas
pub mod LawLemmas
mod OneLemmas
