use Rattle.std.proofs.Common.{sym, ◌∙◌, ap}
use Rattle.std.specs.FinMap.{get}
use Rattle.key_model.specs.State.{session_cmp-total}
use Rattle.tm_data.specs.Maps.{get-as_map}
use Rattle.key_model.proofs.sessions.SessionMap.get.Goals as goal

pub returns : goal.returns
returns c = c.get.ensures.value ∙ sym (get-as_map session_cmp-total c.self.inside.txns c.args.session.now) ∙ ap (λ m. get m c.args.session.now) c.self.view_is
