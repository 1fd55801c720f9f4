use Rattle.std.proofs.Common.{◌≡◌, ◌∷◌, ◌∙◌, None, sym, ap, subst, rules, drop, length, get_or, ◌≤◌, ◌+◌}
use Rattle.std.proofs.lemmas.List.{drop_more, drop_all}
use Rattle.std.specs.Prelude.{IsSome}
use Rattle.std.specs.FinMap as fin
use Rattle.tm_base.specs.declared.message.PageStamp.{PageStamp}
use Rattle.std.specs.Cmp.{nat_cmp_total}
use Rattle.std.specs.FinMap.{nat_cmp-IsAntisymmetric}
use Rattle.master_recovery.specs.Places.{page_key, valued}
use Rattle.master_recovery.proofs.PlaceLemmas.{Reserves, reserves_new, reserves_old, reserved, same_place, none_where_not}
use Rattle.master_recovery.proofs.page_places.PagePlaces.reserve.Goals as goal
use Rattle.master_recovery.proofs.page_places.PagePlaces.reserve.Goals.{then-not-has+in_ok-open, else-not-has}

abbrev zero : PageStamp
zero = record { page = record { 0 = 0 }; stamp = record { 0 = 0 } }

pub loop-item-preserved : goal.loop-item-preserved
loop-item-preserved c =
    let items = c.args.pages.now in
    let xs = c.as_slice-item-items.result.now in
    let i = c.loop-item.item-index in
    let k = get_or xs i zero in
    let m = c.loop-item.self in
    let inv = c.loop-item.invariant in
    let same : xs ≡ items = c.as_slice-item-items.ensures in
    let cut : drop i items ≡ k ∷ drop (i + 1) items = subst (λ l. drop i l ≡ k ∷ drop (i + 1) l) same (drop_more xs i zero c.loop-item-test.true) in
    elim c.if-not-has.branch [
      | then-not-has+in_ok-open w ↦
          let new : c.if-not-has.self ≡ fin.insert m k.page.0 None = search rules in
          let none : fin.get m k.page.0 ≡ None = none_where_not (fin.get m k.page.0) (search rules) in (
            same_place nat_cmp_total nat_cmp-IsAntisymmetric m c.if-not-has.self c.args.self.now k.page.0 new none inv.0,
            reserves_new nat_cmp_total nat_cmp-IsAntisymmetric page_key m c.if-not-has.self (drop i items) (drop (i + 1) items) items k cut new inv.1,
          )
      | else-not-has w ↦
          let same : c.if-not-has.self ≡ m = search rules in
          let had : IsSome (fin.get m k.page.0) = search rules in
          (ap valued same ∙ inv.0, subst (λ n. Reserves nat_cmp_total nat_cmp-IsAntisymmetric page_key n (drop (i + 1) items) items) (sym same) (reserves_old nat_cmp_total nat_cmp-IsAntisymmetric page_key m (drop i items) (drop (i + 1) items) items k cut had inv.1))
    ]

pub returns-clause-ready : goal.returns-clause-ready
returns-clause-ready c =
    let rest = drop_all c.loop-item.item-index c.args.pages.now (subst (λ xs. length xs ≤ c.loop-item.item-index) c.as_slice-item-items.ensures c.loop-item-test.false) in
    reserved nat_cmp_total nat_cmp-IsAntisymmetric page_key c.loop-item.self (drop c.loop-item.item-index c.args.pages.now) c.args.pages.now rest c.loop-item.invariant.1
