use Rattle.std.proofs.Common.{◌≡◌, ◌+◌, ◌≤◌, drop}
use Rattle.rounds.specs.Answers.{stored}
use Rattle.rounds.proofs.log.hand_in.Given as goal

-- what is counted and what is to come is all that is asked
abbrev pub invariant-loop-message : goal.invariant-loop-message
invariant-loop-message l = (l.sum ≤ l.message-index) × (l.sum + stored l.store (drop l.message-index l.messages) ≡ stored l.fn.store l.messages)
