use Rattle.std.proofs.Common.{◌∙◌, sym, ap, subst}
use Rattle.std.specs.FinMap.{remove}
use Rattle.key_model.specs.State.{session_cmp, session_cmp-total, session_cmp-exact}
use Rattle.key_model.specs.declared.sessions.Held.{Held}
use Rattle.key_model.specs.Inside.{CoversTxns, held_cmp}
use Rattle.tm_data.specs.Maps.{as_map, as_set, remove-as_map}
use Rattle.key_model.proofs.SessionLemmas.{covers_freed, one_less}
use Rattle.key_model.proofs.sessions.SessionMap.remove.Goals as goal

pub invariant_of-self : goal.invariant_of-self
invariant_of-self c =
    let m = c.self.inside.txns in
    let h = c.self.inside.held in
    let s = c.args.session.now in
    let gone : Held = record { txn = c.in-Some.txn; session = s } in
    subst (λ n. CoversTxns n (as_set {R = held_cmp} c.remove-in-Some.new.self)) (sym (remove-as_map session_cmp-total session_cmp-exact m c.remove.new.self s c.remove.ensures.updates.0))
    (subst (CoversTxns (remove (as_map {R = session_cmp} m) s)) (sym (one_less h c.remove-in-Some.new.self gone c.remove-in-Some.ensures.updates.0))
    (covers_freed (as_map m) (as_set h) s c.in-Some.txn c.self.invariant))

pub returns-in-Some : goal.returns-in-Some
returns-in-Some c =
    remove-as_map session_cmp-total session_cmp-exact c.self.inside.txns c.remove.new.self c.args.session.now c.remove.ensures.updates.0
    ∙ ap (λ m. remove m c.args.session.now) c.self.view_is

pub returns-in_default : goal.returns-in_default
returns-in_default c =
    remove-as_map session_cmp-total session_cmp-exact c.self.inside.txns c.remove.new.self c.args.session.now c.remove.ensures.updates.0
    ∙ ap (λ m. remove m c.args.session.now) c.self.view_is
