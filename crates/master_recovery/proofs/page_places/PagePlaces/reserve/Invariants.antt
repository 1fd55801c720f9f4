use Rattle.std.proofs.Common.{◌≡◌, drop}
use Rattle.std.specs.Cmp.{nat_cmp_total}
use Rattle.std.specs.FinMap.{nat_cmp-IsAntisymmetric}
use Rattle.master_recovery.specs.Places.{page_key, valued}
use Rattle.master_recovery.proofs.PlaceLemmas.{Reserves}
use Rattle.master_recovery.proofs.page_places.PagePlaces.reserve.Given as goal

-- where more places than now hold the rest, they hold all
abbrev pub invariant-loop-item : goal.invariant-loop-item
invariant-loop-item l =
    (valued l.self ≡ valued l.fn.self) ×
    Reserves nat_cmp_total nat_cmp-IsAntisymmetric page_key l.self (drop l.item-index l.pages) l.pages
