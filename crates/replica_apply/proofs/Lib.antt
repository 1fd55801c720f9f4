mod LaneLemmas
mod JoinLemmas
mod OwnLemmas
mod WaitingLemmas
