use Rattle.std.proofs.Common.{length, ◌≤◌, drop}
use Rattle.log_writer.proofs.ResendLemmas.{Found}
use Rattle.log_writer.proofs.rows.first_lacking.Given as goal

abbrev pub invariant-loop-at : goal.invariant-loop-at
invariant-loop-at l = (length l.lacking ≤ 16) × Found l.lacking (drop l.at l.groups.items) l.groups.items l.store
