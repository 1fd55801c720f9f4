pub mod LengthLemmas
pub mod ShelfLemmas
pub mod ReadLemmas
