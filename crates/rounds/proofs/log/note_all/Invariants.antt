use Rattle.std.proofs.Common.{◌≡◌, drop}
use Rattle.rounds.specs.Answers.{all_acked}
use Rattle.rounds.proofs.log.note_all.Given as goal

abbrev pub invariant-loop-ack : goal.invariant-loop-ack
invariant-loop-ack l = all_acked l.log (drop l.ack-index l.acks) ≡ all_acked l.fn.log l.acks
