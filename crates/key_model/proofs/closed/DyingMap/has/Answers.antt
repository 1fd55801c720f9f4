use Rattle.std.proofs.Common.{sym, ◌∙◌, ap}
use Rattle.std.specs.Prelude.{is_some}
use Rattle.std.specs.FinMap.{get}
use Rattle.tm_data.specs.Maps.{get-as_map}
use Rattle.key_model.specs.State.{dying_cmp-total}
use Rattle.key_model.proofs.closed.DyingMap.has.Goals as goal

pub returns : goal.returns
returns c = c.contains_key.ensures ∙ ap is_some (sym (get-as_map dying_cmp-total c.self.inside.places c.args.dying.now) ∙ ap (λ m. get m c.args.dying.now) c.self.view_is)
