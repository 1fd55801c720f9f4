use Rattle.std.proofs.Common.{◌≡◌, ◌≤◌, ◌+◌, ◌^◌, drop, length}
use Rattle.master_model.specs.Recovery.{in_turn}
use Rattle.master_recovery.specs.Gathered.{gathered}
use Rattle.master_recovery.proofs.batch.gather.Given as goal

abbrev pub invariant-loop-group : goal.invariant-loop-group
invariant-loop-group l =
    (l.next + length (in_turn l.writer.0 l.next l.most (drop l.group-index l.groups)) ≡ l.first + length (in_turn l.writer.0 l.first l.most l.groups)) ×
    (gathered l.writer.0 l.batch (in_turn l.writer.0 l.next l.most (drop l.group-index l.groups)) ≡ gathered l.writer.0 l.fn.batch (in_turn l.writer.0 l.first l.most l.groups)) ×
    (l.next ≤ 2 ^ 32)
