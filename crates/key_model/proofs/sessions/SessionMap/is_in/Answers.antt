use Rattle.std.proofs.Common.{◌∙◌, sym, ap, rules}
use Rattle.std.specs.FinMap as fin
use Rattle.tm_data.specs.Maps.{get-as_map}
use Rattle.key_model.specs.State.{session_cmp-total}
use Rattle.key_model.specs.Inside.{has_txn}
use Rattle.key_model.proofs.sessions.SessionMap.is_in.Goals as goal

pub returns-in-Some : goal.returns-in-Some
returns-in-Some c =
    (search rules)
    ∙ ap (λ o. has_txn o c.args.txn.now)
    (c.in-Some.ensures.value ∙ sym (get-as_map session_cmp-total c.self.inside.txns c.args.session.now) ∙ ap (λ m. fin.get m c.args.session.now) c.self.view_is)

pub returns-in-None : goal.returns-in-None
returns-in-None c =
    ap (λ o. has_txn o c.args.txn.now)
    (c.in-None.ensures.value ∙ sym (get-as_map session_cmp-total c.self.inside.txns c.args.session.now) ∙ ap (λ m. fin.get m c.args.session.now) c.self.view_is)
