-- Small facts of the machine's own functions.
use Rattle.std.specs.Prelude.{◌≡◌, ℕ, List, Bool, true, false, not, cond, is_some, None, Some}
use Rattle.std.specs.declared.option.Option.{Option}
use Rattle.std.proofs.Common.{refl, sym, ◌∙◌, ap}
use Rattle.std.specs.Ordering.{eq_by_cmp}
use Rattle.std.specs.Cmp.{Equal-is}
use Rattle.std.specs.FinMap as fin
use Rattle.tm_data.specs.declared.transaction.Txn.{Txn}
use Rattle.key_model.specs.declared.sessions.Session.{Session}
use Rattle.key_model.specs.State.{State, session_cmp, session_cmp-total, session_cmp-exact}
use Rattle.key_model.specs.After.{may_begin, same_value}
use Rattle.key_model.proofs.LawLemmas.{first_true, true_none}

-- a value is none where there is none to see
pub none_same : (v : Option (List ℕ)) (b : Bool) → is_some v ≡ not b → b ≡ same_value v None
none_same None true h = refl
none_same None false h = h
none_same (Some x) true h = h
none_same (Some x) false h = refl

pub may_begin_vacant : (m : State) (session : Session) (t : Txn) → may_begin m session t ≡ true → fin.get m.sessions session ≡ None
may_begin_vacant m session t h = true_none _ (first_true _ _ (first_true _ _ h))

-- a session that is freed again, where memory was wanting after it got its transaction
pub freed_again : (m next : fin.FinMap session_cmp Txn) (session : Session) (t : Txn) → fin.get m session ≡ None → next ≡ fin.remove (fin.insert m session t) session → next ≡ m
freed_again m next session t none is = is ∙ fin.same_map session_cmp-total session_cmp-exact _ _ (λ q.
    fin.get-remove session_cmp-total (fin.insert m session t) session q
    ∙ ap (cond (eq_by_cmp session_cmp q session) None) (fin.get-insert session_cmp-total m session t q) ∙ by q (eq_by_cmp session_cmp q session) refl)
  where
    by : (q : Session) (b : Bool) → eq_by_cmp session_cmp q session ≡ b → cond b None (cond b (Some t) (fin.get m q)) ≡ fin.get m q
    by q true same = sym (ap (fin.get m) (session_cmp-exact q session ((Equal-is (session_cmp q session)).0 same)) ∙ none)
    by q false same = refl
