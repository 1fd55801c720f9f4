use Rattle.std.proofs.Common.{◌≡◌, drop}
use Rattle.master_acks.specs.Inside.{cut_each}
use Rattle.master_acks.proofs.gone.cut_each.Given as goal

abbrev pub invariant-loop-going : goal.invariant-loop-going
invariant-loop-going l = cut_each l.tags (drop l.going-index l.leaving) ≡ cut_each l.initial.tags l.leaving
