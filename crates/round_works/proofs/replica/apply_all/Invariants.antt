use Rattle.std.proofs.Common.{◌≡◌, ◌+◌, ◌≤◌, drop}
use Rattle.round_works.specs.Seen.{all_on, applied_of}
use Rattle.round_works.proofs.replica.apply_all.Given as goal

-- what is counted and what is to come is all; and the others come on those
abbrev pub invariant-loop-group : goal.invariant-loop-group
invariant-loop-group l =
    (l.sum ≤ l.group-index) × (l.sum + applied_of l.order (drop l.group-index l.groups) ≡ applied_of l.fn.order l.groups)
    × (all_on l.order (drop l.group-index l.groups) ≡ all_on l.fn.order l.groups)
