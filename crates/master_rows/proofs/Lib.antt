pub mod RowLemmas
pub mod WayLemmas
