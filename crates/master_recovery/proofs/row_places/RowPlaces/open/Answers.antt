use Rattle.std.proofs.Common.{◌≡◌, ◌∙◌, None, ap, rules}
use Rattle.std.specs.FinMap.{insert}
use Rattle.tm_data.specs.Maps.{as_map, insert-as_map}
use Rattle.master_model.specs.Recovery.{written_cmp}
use Rattle.master_recovery.specs.Rows.{written_cmp-total, written_cmp-exact}
use Rattle.master_recovery.proofs.row_places.RowPlaces.open.Goals as goal

pub returns-clause-ok : goal.returns-clause-ok
returns-clause-ok c =
    let m = c.self.inside.places in
    let is : c.in_ok-row.row ≡ c.args.row.now = search rules in
    insert-as_map written_cmp-total written_cmp-exact m c.insert.new.self c.in_ok-row.row None c.in-Ok.ensures.updates.0
    ∙ ap (λ k. insert (as_map {R = written_cmp} m) k None) is
    ∙ ap (λ n. insert n c.args.row.now None) c.self.view_is
