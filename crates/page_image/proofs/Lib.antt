pub mod RowLemmas
pub mod ImageLemmas
