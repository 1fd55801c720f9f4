use Rattle.std.proofs.Common.{rules, ◌≡◌, ◌<◌, ◌-◌, ◌*◌, ◌∷◌, [], ◌++◌, ◌∙◌, Some, ap, sym, arith, length, length-append, map, take, drop}
use Rattle.std.specs.Cmp.{nat_cmp_total}
use Rattle.std.specs.FinMap as fin
use Rattle.std.specs.FinMap.{nat_cmp-IsAntisymmetric}
use Rattle.tm_data.specs.Maps.{entries-as_map}
use Rattle.master_model.specs.Recovery.{page_stamp, part_of}
use Rattle.master_recovery.specs.Places.{kept}
use Rattle.master_recovery.proofs.PlaceLemmas.{entries-valued}
use Rattle.master_recovery.proofs.WalkLemmas.{done, takes}
use Rattle.master_recovery.proofs.page_places.PagePlaces.part.Goals as goal

pub loop-page-init : goal.loop-page-init
loop-page-init c =
    let all = c.into_iter-page-iterator.ensures.into_iter_gives ∙ c.iter-page-items.ensures.rest in
    let seen = all ∙ sym (entries-as_map nat_cmp_total c.self.inside.places c.iter-page-items.ensures.ordered) ∙ ap fin.entries c.self.view_is in
    let none : c.new-list.result ≡ [] = c.new-list.ensures in
    let from : c.from-skip.result ≡ c.args.part - 1 = search rules in (
      tt,
      tt,
      λ i. none i ++ take (65536 - length (none i)) (drop (from i * 65536) (map page_stamp (kept (seen i)))),
      omega (arith, ap length none),
    )

pub loop-page-preserved-in-Continue-1 : goal.loop-page-preserved-in-Continue-1
loop-page-preserved-in-Continue-1 c =
    let its = c.loop-page.page-iterator in
    let rest = c.next.new.self in
    let list = c.loop-page.list in
    let skip = c.loop-page.skip in
    let inv = c.loop-page.invariant in
    let x = page_stamp (c.in-Some.page.now, c.in-Some-place.stamp) in
    let xs = map page_stamp (kept rest) in
    let is : its ≡ (c.in-Some.page.now, Some c.in-Some-place.stamp) ∷ rest = search rules in
    let cut : map page_stamp (kept its) ≡ x ∷ xs = ap (λ es. map page_stamp (kept es)) is in
    let pushed : c.push.new.self ≡ list ++ x ∷ [] = search rules in
    let few : length list < 65536 = search rules in (
      tt,
      tt,
      ap (λ l. l ++ take (65536 - length l) (drop skip xs)) pushed
          ∙ takes 65536 list skip x xs _ (omega (arith, c.if-skip-gt0.false)) few (sym (ap (λ ys. list ++ take (65536 - length list) (drop skip ys)) cut) ∙ inv.2),
      omega (arith, ap length pushed, length-append list (x ∷ []), few),
    )

pub returns : goal.returns
returns c =
    let is : c.loop-page.page-iterator ≡ [] = search rules in
    done c.loop-page.list (65536 - length c.loop-page.list) c.loop-page.skip (map page_stamp (kept c.loop-page.page-iterator)) _ (ap (λ es. map page_stamp (kept es)) is) c.loop-page.invariant.2
    ∙ ap (λ es. part_of (map page_stamp es) c.args.part) (sym (entries-valued nat_cmp_total nat_cmp-IsAntisymmetric c.args.self.now))
