pub mod PlaceLemmas
pub mod PathLemmas
pub mod FullLemmas
pub mod PlanLemmas
pub mod FittingLemmas
pub mod RoomLemmas
