use Rattle.std.proofs.Common.{◌≡◌, drop}
use Rattle.key_model.specs.State.{dying_cmp-total, dying_cmp-exact}
use Rattle.key_model.specs.Inside.{there}
use Rattle.key_model.proofs.PlaceLemmas.{Reserves}
use Rattle.key_model.proofs.closed.DyingMap.reserve.Given as goal

-- where more places than now hold the rest, they hold all
abbrev pub invariant-loop-dying : goal.invariant-loop-dying
invariant-loop-dying l =
    (there l.self ≡ there l.fn.self) ×
    Reserves dying_cmp-total dying_cmp-exact l.self (drop l.dying-index l.rows) l.rows
