use Rattle.std.proofs.Common.{◌∙◌, Some, sym, ap, subst}
use Rattle.std.specs.Prelude.{IsSome}
use Rattle.std.specs.FinMap.{get, insert}
use Rattle.tm_data.specs.Maps.{get-as_map, insert-as_map}
use Rattle.master_recovery.specs.Rows.{written_cmp-total, written_cmp-exact}
use Rattle.master_recovery.proofs.PlaceLemmas.{ok_only, some_not_none}
use Rattle.master_recovery.proofs.row_places.RowPlaces.set.Goals as goal

pub returns : goal.returns
returns c =
    let m = c.self.inside.places in
    let w = c.args.row in
    let had = subst (λ n. IsSome (get n w)) (sym c.self.view_is) c.requires in
    let up = ok_only c.insert.result c.insert.ensures.updates c.insert.ensures.absent (λ none. some_not_none _ had (get-as_map written_cmp-total m w ∙ none)) in
    insert-as_map written_cmp-total written_cmp-exact m c.insert.new.self w (Some tt) up.0 ∙ ap (λ n. insert n w (Some tt)) c.self.view_is
