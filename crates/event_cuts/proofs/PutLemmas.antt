-- The puts of a cut, found from the last on.
use Rattle.std.proofs.Common.{◌≡◌, ℕ, Bool, true, false, cond, ◌||◌, List, [], ◌∷◌, ◌++◌, refl, sym, ap, ◌∙◌}
use Rattle.std.specs.Prelude.{is_some}
use Rattle.std.specs.List.{cons_option}
use Rattle.std.specs.Ordering.{eq_by_cmp}
use Rattle.std.specs.FinMap as fin
use Rattle.std.specs.FinMap.{get, get-insert, get-remove}
use Rattle.std.specs.declared.option.Option.{Option}
use Rattle.std.specs.declared.option.Option.TheVariants.{None, Some}
use Rattle.tm_data.specs.declared.transaction.Txn.{Txn}
use Rattle.tm_data.specs.declared.row_map.RowKey.{RowKey}
use Rattle.tm_data.specs.declared.row.Row.{Row}
use Rattle.tm_data.specs.Orders.{row_cmp, row_cmp-total, row_cmp-exact, txn_cmp, txn_cmp-total, txn_cmp-exact}
use Rattle.key_model.specs.declared.events.Event.{Event}
use Rattle.key_model.specs.declared.events.EventKind.{EventKind}
use Rattle.key_model.specs.declared.events.EventKind.TheVariants.{Read, Put, End}
use Rattle.key_model.specs.Steps.{row_of}
use Rattle.key_model.specs.After.{same_txn, same_row}
use Rattle.key_model.specs.Events.{ends, has_end}
use Rattle.key_model.specs.Cuts.{Cut, is_in, gathered, Written, written, written_if, puts_on, wrote, value_after, value_before, before_of}
use Rattle.key_index.proofs.AnyLemmas.{same_truth, equal, itself}
use Rattle.key_model.proofs.LawLemmas.{txn_is, txn_same, row_is, row_same}
use Rattle.event_cuts.specs.declared.last_puts.LastPut.{LastPut}
use Rattle.event_cuts.specs.Inside.{LastPuts, with_earlier, or_last, with_put, with_kind, with_event, before_from, row_left, EndMap, with_end_kind, with_end, HasEnds}

-- ---- one event more

pub gathered_more : (cut : Cut) (past events : List Event) (e : Event)
    → gathered cut past (events ++ e ∷ []) ≡ cond (is_in cut e) (e ∷ gathered cut past events) (gathered cut past events)
gathered_more cut past [] e = refl
gathered_more cut past (i ∷ events) e = gathered_more cut (cond (is_in cut i) (i ∷ past) past) events e

pub same_key : (a b : RowKey) → eq_by_cmp row_cmp a b ≡ same_row a b
same_key a b = same_truth _ _
    (λ h. ap (same_row a) (sym (equal row_cmp-total row_cmp-exact a b h)) ∙ row_same a)
    (λ h. ap (eq_by_cmp row_cmp a) (sym (row_is a b h)) ∙ itself row_cmp-total row_cmp-exact a)

pub same_one : (a b : Txn) → eq_by_cmp txn_cmp a b ≡ same_txn a b
same_one a b = same_truth _ _
    (λ h. ap (same_txn a) (sym (equal txn_cmp-total txn_cmp-exact a b h)) ∙ txn_same a)
    (λ h. ap (eq_by_cmp txn_cmp a) (sym (txn_is a b h)) ∙ itself txn_cmp-total txn_cmp-exact a)

-- ---- the value before

before_earlier : (p : LastPut) (t : Txn) (x : Option (List ℕ)) (ws : List Written)
    → before_from p (record { txn = t; value = x } ∷ ws) ≡ before_from (with_earlier p t x) ws
before_earlier p t x ws = by (same_txn p.txn t) (wrote p.txn ws)
  where
    by : (a b : Bool)
        → cond (a || b) (cond b (value_before p.txn ws) (value_after ws)) (cond p.own x p.before)
        ≡ cond b (value_before p.txn ws) (cond a (value_after ws) (cond p.own x p.before))
    by true true = refl
    by true false = refl
    by false true = refl
    by false false = refl

left_earlier : (key : RowKey) (k : List ℕ) (t : Txn) (x : Option (List ℕ)) (o : Option LastPut) (ws : List Written) → key.key ≡ k
    → row_left key (Some (or_last k t x o)) ws ≡ row_left key o (record { txn = t; value = x } ∷ ws)
left_earlier key k t x None ws is = λ i. Some (record { key = sym is i; txn = t; now = x; before = before_of x (cond (wrote t ws) (value_before t ws) (value_after ws)) })
left_earlier key k t x (Some p) ws is =
    λ i. Some (record { key = p.key; txn = p.txn; now = p.value; before = before_of p.value (sym (before_earlier p t x ws) i) })

get-with_put : (m : LastPuts) (place : RowKey) (k : List ℕ) (t : Txn) (x : Option (List ℕ)) (key : RowKey)
    → get (with_put m place k t x) key ≡ cond (same_row key place) (Some (or_last k t x (get m place))) (get m key)
get-with_put m place k t x key =
    get-insert row_cmp-total (fin.remove m place) place (or_last k t x (get m place)) key
    ∙ ap (cond (eq_by_cmp row_cmp key place) (Some (or_last k t x (get m place)))) (get-remove row_cmp-total m place key)
    ∙ by (eq_by_cmp row_cmp key place) ∙ ap (λ b. cond b (Some (or_last k t x (get m place))) (get m key)) (same_key key place)
  where
    by : (b : Bool) → cond b (Some (or_last k t x (get m place))) (cond b None (get m key)) ≡ cond b (Some (or_last k t x (get m place))) (get m key)
    by true = refl
    by false = refl

kind_found : (m : LastPuts) (e : Event) (past : List Event) (key : RowKey) (kind : EventKind)
    → row_left key (get (with_kind m kind) key) (puts_on key past) ≡ row_left key (get m key) (cons_option (written key kind) (puts_on key past))
kind_found m e past key (Read t table k) = refl
kind_found m e past key (End t committed) = refl
kind_found m e past key (Put t table k x) =
    ap (λ o. row_left key o (puts_on key past)) (get-with_put m (row_of table k) k t x key) ∙ by (same_row key (row_of table k)) refl
  where
    by : (b : Bool) → same_row key (row_of table k) ≡ b
        → row_left key (cond b (Some (or_last k t x (get m (row_of table k)))) (get m key)) (puts_on key past)
        ≡ row_left key (get m key) (cons_option (written_if b t x) (puts_on key past))
    by true is =
        let same : key ≡ row_of table k = row_is key (row_of table k) is in
        left_earlier key k t x (get m (row_of table k)) (puts_on key past) (ap (λ (r : RowKey). r.key) same)
        ∙ ap (λ r. row_left key (get m r) (record { txn = t; value = x } ∷ puts_on key past)) (sym same)
    by false is = refl

pub event_found : (m next : LastPuts) (cut : Cut) (e : Event) (past : List Event) (key : RowKey) (row : Option Row) → next ≡ with_event (is_in cut e) m e.kind
    → row_left key (get m key) (puts_on key (cond (is_in cut e) (e ∷ past) past)) ≡ row
    → row_left key (get next key) (puts_on key past) ≡ row
event_found m next cut e past key row new h = ap (λ n. row_left key (get n key) (puts_on key past)) new ∙ by (is_in cut e) h
  where
    by : (b : Bool) → row_left key (get m key) (puts_on key (cond b (e ∷ past) past)) ≡ row → row_left key (get (with_event b m e.kind) key) (puts_on key past) ≡ row
    by true h = kind_found m e past key e.kind ∙ h
    by false h = h

-- ---- ends

kind_ended : (m : EndMap) (kind : EventKind) (past : List Event) → HasEnds m past → (t : Txn) → is_some (get (with_end_kind m kind) t) ≡ (ends t kind || has_end t past)
kind_ended m (Read u table key) past h t = h t
kind_ended m (Put u table key x) past h t = h t
kind_ended m (End u committed) past h t =
    ap is_some (get-insert txn_cmp-total m u tt t) ∙ ap (λ b. is_some (cond b (Some tt) (get m t))) (same_one t u) ∙ by (same_txn t u) ∙ ap (λ b. same_txn t u || b) (h t)
  where
    by : (b : Bool) → is_some (cond b (Some tt) (get m t)) ≡ (b || is_some (get m t))
    by true = refl
    by false = refl

pub event_ended : (m next : EndMap) (cut : Cut) (e : Event) (past : List Event) → next ≡ with_end (is_in cut e) m e.kind → HasEnds m past
    → HasEnds next (cond (is_in cut e) (e ∷ past) past)
event_ended m next cut e past new h t = ap (λ n. is_some (get n t)) new ∙ by (is_in cut e)
  where
    by : (b : Bool) → is_some (get (with_end b m e.kind) t) ≡ has_end t (cond b (e ∷ past) past)
    by true = kind_ended m e.kind past h t
    by false = h t
