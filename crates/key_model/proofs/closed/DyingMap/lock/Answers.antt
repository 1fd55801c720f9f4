use Rattle.std.proofs.Common.{◌∙◌, Some, sym, ap, subst}
use Rattle.std.specs.Prelude.{IsSome}
use Rattle.std.specs.FinMap.{get, insert}
use Rattle.tm_data.specs.Maps.{as_map, get-as_map, insert-as_map}
use Rattle.key_model.specs.State.{dying_cmp-total, dying_cmp-exact}
use Rattle.key_model.specs.Inside.{CoversPlaces}
use Rattle.key_model.proofs.PlaceLemmas.{ok_only, some_not_none}
use Rattle.key_model.proofs.OwnedLemmas.{covers_set}
use Rattle.key_model.proofs.closed.DyingMap.lock.Goals as goal

pub invariant_of-self : goal.invariant_of-self
invariant_of-self c =
    let m = c.self.inside.places in
    let d = c.args.dying in
    let had = subst (λ n. IsSome (get n d)) (sym c.self.view_is) c.requires in
    let up = ok_only c.insert.result c.insert.ensures.updates c.insert.ensures.absent (λ none. some_not_none _ had (get-as_map dying_cmp-total m d ∙ none)) in
    subst (λ n. CoversPlaces n c.self.inside.owned) (sym (insert-as_map dying_cmp-total dying_cmp-exact m c.insert.new.self d (Some tt) up.0))
    (covers_set (as_map m) c.self.inside.owned d (Some tt) had c.self.invariant)

pub returns : goal.returns
returns c =
    let m = c.self.inside.places in
    let d = c.args.dying in
    let had = subst (λ n. IsSome (get n d)) (sym c.self.view_is) c.requires in
    let up = ok_only c.insert.result c.insert.ensures.updates c.insert.ensures.absent (λ none. some_not_none _ had (get-as_map dying_cmp-total m d ∙ none)) in
    insert-as_map dying_cmp-total dying_cmp-exact m c.insert.new.self d (Some tt) up.0 ∙ ap (λ n. insert n d (Some tt)) c.self.view_is
