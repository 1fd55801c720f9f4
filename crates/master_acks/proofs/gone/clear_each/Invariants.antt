use Rattle.std.proofs.Common.{◌≡◌, drop}
use Rattle.master_acks.specs.Inside.{cleared_each}
use Rattle.master_acks.proofs.gone.clear_each.Given as goal

abbrev pub invariant-loop-going : goal.invariant-loop-going
invariant-loop-going l = cleared_each l.pool (drop l.going-index l.leaving) ≡ cleared_each l.initial.pool l.leaving
