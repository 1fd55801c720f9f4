pub mod SoundLemmas
pub mod KeepLemmas
pub mod PlanContent
pub mod GroupSpelling
