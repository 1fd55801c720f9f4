pub mod UsedLemmas
pub mod UndoLemmas
pub mod AbortLemmas
