mod AwaitedLemmas
mod LoggedLemmas
mod PlanLemmas
pub mod Moves
pub mod StepMoves
mod GoesLemmas
pub mod WholeLemmas
pub mod GrowMoves
mod LackLemmas
mod PlaceLemmas
mod StepGoes
pub mod FactLemmas
mod PageLemmas
pub mod LeaseLemmas
mod SessionLemmas
mod SinceLemmas
mod StepFacts
mod Answers
mod ToldLemmas
mod StepTold
mod NoteTold
mod ReplyLemmas
mod QuietLemmas
mod EndLemmas
mod OpenLemmas
mod TagSetLemmas
mod TagLemmas
mod BegunLemmas
mod OnceLemmas
mod OpenEndLemmas
mod EndedLemmas
pub mod CauseLemmas
mod EpochLemmas
mod StageLemmas
mod KeptLemmas
mod SaidLemmas
mod DoneLemmas
mod RestLemmas
mod LightLemmas
mod BecauseLemmas
mod HeardLemmas
