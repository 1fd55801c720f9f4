use Rattle.std.proofs.Common.{◌≡◌, drop}
use Rattle.master_acks.specs.Inside.{drawn_each}
use Rattle.master_acks.proofs.gone.draw_each.Given as goal

abbrev pub invariant-loop-going : goal.invariant-loop-going
invariant-loop-going l = drawn_each l.stock (drop l.going-index l.leaving) ≡ drawn_each l.initial.stock l.leaving
