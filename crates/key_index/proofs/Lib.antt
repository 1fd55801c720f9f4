pub mod AnyLemmas
mod CoverLemmas
mod HolderLemmas
mod LeaveLemmas
mod OpenLemmas
