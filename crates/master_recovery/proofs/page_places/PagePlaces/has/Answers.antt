use Rattle.std.proofs.Common.{sym, ◌∙◌, ap}
use Rattle.std.specs.Prelude.{is_some}
use Rattle.std.specs.Cmp.{nat_cmp_total}
use Rattle.std.specs.FinMap.{get}
use Rattle.tm_data.specs.Maps.{get-as_map}
use Rattle.master_recovery.proofs.page_places.PagePlaces.has.Goals as goal

pub returns : goal.returns
returns c = c.contains_key.ensures ∙ ap is_some (sym (get-as_map nat_cmp_total c.self.inside.places c.args.item.now.page.0) ∙ ap (λ m. get m c.args.item.now.page.0) c.self.view_is)
