use Rattle.std.proofs.Common.{◌≡◌, ◌+◌, ◌≤◌, drop}
use Rattle.rounds.specs.Answers.{managed}
use Rattle.rounds.proofs.locks.hand_in.Given as goal

-- what is counted and what is to come is all that is asked
abbrev pub invariant-loop-message : goal.invariant-loop-message
invariant-loop-message l = (l.sum ≤ l.message-index) × (l.sum + managed l.locks (drop l.message-index l.messages) ≡ managed l.fn.locks l.messages)
