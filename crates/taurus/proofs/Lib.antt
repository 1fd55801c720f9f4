mod FoundLemmas
mod LineLemmas
mod PerformLemmas
mod ReplayLemmas
mod RunLemmas
mod StepLemmas
mod WordLemmas
