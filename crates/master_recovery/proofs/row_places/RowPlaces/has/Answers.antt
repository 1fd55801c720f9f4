use Rattle.std.proofs.Common.{sym, ◌∙◌, ap}
use Rattle.std.specs.Prelude.{is_some}
use Rattle.std.specs.FinMap.{get}
use Rattle.tm_data.specs.Maps.{get-as_map}
use Rattle.master_recovery.specs.Rows.{written_cmp-total}
use Rattle.master_recovery.proofs.row_places.RowPlaces.has.Goals as goal

pub returns : goal.returns
returns c = c.contains_key.ensures ∙ ap is_some (sym (get-as_map written_cmp-total c.self.inside.places c.args.row.now) ∙ ap (λ m. get m c.args.row.now) c.self.view_is)
