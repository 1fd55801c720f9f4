use Rattle.std.proofs.Common.{◌≡◌, ◌≤◌, ◌^◌, ◌∙◌, Some, sym, ap, subst, arith, length}
use Rattle.std.specs.Prelude.{IsSome}
use Rattle.std.specs.Cmp.{nat_cmp_total}
use Rattle.std.specs.FinMap.{get, insert, nat_cmp-IsAntisymmetric}
use Rattle.tm_data.specs.Maps.{get-as_map, insert-as_map}
use Rattle.master_recovery.proofs.PlaceLemmas.{ok_only, some_not_none}
use Rattle.master_recovery.proofs.WalkLemmas.{as_many}
use Rattle.master_recovery.proofs.page_places.PagePlaces.set.Goals as goal

pub invariant_of-self : goal.invariant_of-self
invariant_of-self c =
    let m = c.self.inside.places in
    let p = c.args.page in
    let had = subst IsSome (sym (ap (λ n. get n p) c.self.view_is) ∙ get-as_map nat_cmp_total m p) c.requires in
    let most : length m.entries ≤ 2 ^ 32 = c.self.invariant in
    let same : length c.insert.new.self.entries ≡ length m.entries = as_many c.insert.result _ _ _ c.insert.ensures.old c.insert.ensures.len c.insert.ensures.absent had in
    omega (arith, same, most)

pub returns : goal.returns
returns c =
    let m = c.self.inside.places in
    let p = c.args.page in
    let had = subst (λ n. IsSome (get n p)) (sym c.self.view_is) c.requires in
    let up = ok_only c.insert.result c.insert.ensures.updates c.insert.ensures.absent (λ none. some_not_none _ had (get-as_map nat_cmp_total m p ∙ none)) in
    insert-as_map nat_cmp_total nat_cmp-IsAntisymmetric m c.insert.new.self p (Some c.args.stamp) up.0 ∙ ap (λ n. insert n p (Some c.args.stamp)) c.self.view_is
