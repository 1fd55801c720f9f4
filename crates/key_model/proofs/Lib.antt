mod BeginLemmas
mod CloseLemmas
mod ClosingLemmas
mod DyingLemmas
pub mod EventLemmas
pub mod FirstLemmas
pub mod FoldLemmas
pub mod LawLemmas
mod OwnedLemmas
mod PlaceLemmas
mod SessionLemmas
pub mod StepLemmas
mod ValuedLemmas
