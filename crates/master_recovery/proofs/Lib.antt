pub mod PlaceLemmas
pub mod BatchLemmas
pub mod WalkLemmas
pub mod SeenLemmas
pub mod LawLemmas
pub mod ShownLemmas
