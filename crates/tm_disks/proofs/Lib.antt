mod DiskLemmas
mod HistoryLemmas
mod OverwriteLemmas
mod PaddedLemmas
mod PlanLemmas
mod StoreLemmas
