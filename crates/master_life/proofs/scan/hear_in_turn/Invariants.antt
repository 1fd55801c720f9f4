use Rattle.std.proofs.Common.{◌≡◌, ◌≤◌, ◌+◌, ◌^◌, drop, length}
use Rattle.std.specs.List.{AllByRecursion}
use Rattle.master_model.specs.Recovery.{in_turn}
use Rattle.master_life.specs.Moves.{Fits, hears_all}
use Rattle.master_life.proofs.scan.hear_in_turn.Given as goal

abbrev pub invariant-loop-group : goal.invariant-loop-group
invariant-loop-group l =
    (l.next + length (in_turn l.writer.0 l.next l.most (drop l.group-index l.groups)) ≡ l.first + length (in_turn l.writer.0 l.first l.most l.groups)) ×
    (hears_all l.clock (in_turn l.writer.0 l.next l.most (drop l.group-index l.groups)) ≡ hears_all l.fn.clock (in_turn l.writer.0 l.first l.most l.groups)) ×
    (l.next ≤ 2 ^ 32) ×
    (l.fn.clock.scalar ≤ l.clock.scalar) ×
    AllByRecursion Fits (drop l.group-index l.groups)
