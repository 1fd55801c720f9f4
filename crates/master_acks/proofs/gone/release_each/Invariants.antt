use Rattle.std.proofs.Common.{◌≡◌, drop}
use Rattle.master_acks.specs.Inside.{released_each}
use Rattle.master_acks.proofs.gone.release_each.Given as goal

abbrev pub invariant-loop-going : goal.invariant-loop-going
invariant-loop-going l = released_each l.desk (drop l.going-index l.leaving) ≡ released_each l.initial.desk l.leaving
