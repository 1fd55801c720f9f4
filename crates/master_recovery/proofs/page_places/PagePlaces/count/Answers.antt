use Rattle.std.proofs.Common.{rules, ◌≡◌, ◌≤◌, ◌^◌, ◌∷◌, [], ◌∙◌, ap, sym, arith, length}
use Rattle.std.specs.Cmp.{nat_cmp_total}
use Rattle.std.specs.FinMap as fin
use Rattle.std.specs.FinMap.{nat_cmp-IsAntisymmetric}
use Rattle.tm_data.specs.Maps.{entries-as_map}
use Rattle.master_model.specs.Recovery.{page_stamp}
use Rattle.master_recovery.specs.Places.{kept}
use Rattle.master_recovery.proofs.PlaceLemmas.{entries-valued}
use Rattle.master_recovery.proofs.WalkLemmas.{count_none, count_some, length_map}
use Rattle.master_recovery.proofs.page_places.PagePlaces.count.Goals as goal

pub loop-page-init : goal.loop-page-init
loop-page-init c =
    let all = c.into_iter-page-iterator.ensures.into_iter_gives ∙ c.iter-page-items.ensures.rest in
    let seen = all ∙ sym (entries-as_map nat_cmp_total c.self.inside.places c.iter-page-items.ensures.ordered) ∙ ap fin.entries c.self.view_is in
    let most : length c.self.inside.places.entries ≤ 2 ^ 32 = c.self.invariant in
    (tt, tt, omega (arith, ap (λ es. length (kept es)) seen), omega (arith, ap length all, most))

pub loop-page-preserved-then-is_some : goal.loop-page-preserved-then-is_some
loop-page-preserved-then-is_some c =
    let is : c.loop-page._page-iterator ≡ (c.in-Some._page.now, c.in-Some.place.now) ∷ c.next.new.self = search rules in
    let inv = c.loop-page.invariant in (
      tt,
      tt,
      count_some c.loop-page._page-iterator c.next.new.self (c.in-Some._page.now, c.in-Some.place.now) c.loop-page.count _ is (sym c.is_some.ensures ∙ c.if-is_some.true) inv.2,
      omega (arith, ap length is, inv.3),
    )

pub loop-page-preserved : goal.loop-page-preserved
loop-page-preserved c =
    let is : c.loop-page._page-iterator ≡ (c.in-Some._page.now, c.in-Some.place.now) ∷ c.next.new.self = search rules in
    let inv = c.loop-page.invariant in (
      tt,
      tt,
      count_none c.loop-page._page-iterator c.next.new.self (c.in-Some._page.now, c.in-Some.place.now) c.loop-page.count _ is (sym c.is_some.ensures ∙ c.if-is_some.false) inv.2,
      omega (arith, ap length is, inv.3),
    )

pub returns-clause-value : goal.returns-clause-value
returns-clause-value c =
    let is : c.loop-page._page-iterator ≡ [] = search rules in
    let inv = c.loop-page.invariant in
    omega (arith, inv.2, ap (λ es. length (kept es)) is)
    ∙ ap length (sym (entries-valued nat_cmp_total nat_cmp-IsAntisymmetric c.args.self.now))
    ∙ sym (length_map page_stamp (fin.entries (fin.from_entries (kept (fin.entries c.args.self.now)))))

pub returns-clause-most : goal.returns-clause-most
returns-clause-most c = omega (arith, c.loop-page.invariant.3)
