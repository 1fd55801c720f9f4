use Rattle.std.proofs.Common.{◌≡◌, ◌∙◌, sym, ap, subst}
use Rattle.std.specs.FinMap.{insert, from_entries}
use Rattle.key_model.specs.State.{session_cmp, session_cmp-total, session_cmp-exact}
use Rattle.key_model.specs.declared.sessions.Held.{Held}
use Rattle.key_model.specs.Inside.{CoversTxns, held_cmp, held_cmp-total, held_cmp-exact}
use Rattle.tm_data.specs.Maps.{as_map, as_set, insert-as_map, insert-as_set}
use Rattle.key_model.proofs.SessionLemmas.{covers_more, covers_given}
use Rattle.key_model.proofs.sessions.SessionMap.insert.Goals as goal

pub returns-clause-ok : goal.returns-clause-ok
returns-clause-ok c =
    insert-as_map session_cmp-total session_cmp-exact c.self.inside.txns c.insert-2.new.self c.args.session c.args.txn c.in_ok-insert-2.ensures.updates.0
    ∙ ap (λ m. insert m c.args.session c.args.txn) c.self.view_is

pub invariant_of-self-in_err-insert-2 : goal.invariant_of-self-in_err-insert-2
invariant_of-self-in_err-insert-2 c =
    let m = c.self.inside.txns in
    let h = c.self.inside.held in
    let one : Held = record { txn = c.args.txn; session = c.args.session } in
    let same : as_map {R = session_cmp} c.insert-2.new.self ≡ as_map m = ap (from_entries {R = session_cmp}) c.in_err-insert-2.ensures.err in
    subst (λ n. CoversTxns n (as_set {R = held_cmp} c.insert.new.self)) (sym same)
    (subst (CoversTxns (as_map {R = session_cmp} m)) (sym (insert-as_set held_cmp-total held_cmp-exact h c.insert.new.self one c.in_ok-insert.ensures.updates.0))
    (covers_more (as_map m) (as_set h) one c.self.invariant))

pub invariant_of-self-2 : goal.invariant_of-self-2
invariant_of-self-2 c =
    let m = c.self.inside.txns in
    let h = c.self.inside.held in
    let one : Held = record { txn = c.args.txn; session = c.args.session } in
    subst (λ n. CoversTxns n (as_set {R = held_cmp} c.insert.new.self))
    (sym (insert-as_map session_cmp-total session_cmp-exact m c.insert-2.new.self c.args.session c.args.txn c.in_ok-insert-2.ensures.updates.0))
    (subst (CoversTxns (insert (as_map {R = session_cmp} m) c.args.session c.args.txn)) (sym (insert-as_set held_cmp-total held_cmp-exact h c.insert.new.self one c.in_ok-insert.ensures.updates.0))
    (covers_given (as_map m) (as_set h) c.args.session c.args.txn c.self.invariant))
