-- A close and a recovery: the relation and the function are one.
use Rattle.std.specs.Prelude.{◌≡◌, ◌⊎◌, ◌<◌, ℕ, zero, suc, List, [], ◌∷◌, length, Bool, true, false, cond, not, ◌&&◌, ◌||◌, Some, None, is_some, Contains}
use Rattle.std.proofs.Common.{refl, sym, ◌∙◌, ap, subst, inl, inr, get_or, arith}
use Rattle.std.specs.declared.option.Option.{Option}
use Rattle.std.specs.declared.cmp.Ordering.TheVariants.{Equal}
use Rattle.std.specs.Ordering.{eq_by_cmp}
use Rattle.std.specs.FinMap as fin
use Rattle.std.specs.FinSet as sets
use Rattle.tm_data.specs.declared.transaction.Txn.{Txn}
use Rattle.tm_data.specs.declared.transaction.Writer.{Writer}
use Rattle.tm_data.specs.Orders.{txn_cmp, txn_cmp-total, txn_cmp-exact}
use Rattle.key_model.specs.declared.events.Ended.{Ended}
use Rattle.key_model.specs.declared.events.PutKey.{PutKey}
use Rattle.key_model.specs.State.{Open, State, DyingRow, dying_cmp, dying_cmp-total, dying_cmp-exact}
use Rattle.key_model.specs.Steps.{SettlesIfOpen, SettleInTurn, IsOpenOf, Leaves, Closes, IsRecovered}
use Rattle.key_model.specs.After.{same_writer, after_settled, settled_if_open, or_same, after_ends, is_open_of, locked_row, with_locked, left, after_closing, after_recovery}
use Rattle.key_index.proofs.AnyLemmas.{true_or_false, not_both, same_truth, itself, equal}
use Rattle.key_model.proofs.LawLemmas.{first_true, second_true, both_true, not_true, true_not, writer_is, writer_same, gives, needs, settles_to, settles_from}

-- ---- lists

module _ {X : Type 0} where
  contains_first : (x y : X) (xs : List X) → x ≡ y → Contains (x ∷ xs) y
  contains_first x y xs same = (0, omega arith, same)

  contains_tail : (y : X) (xs : List X) (x : X) → Contains xs x → Contains (y ∷ xs) x
  contains_tail y xs x c = let within = c.1 in (suc c.0, omega arith, c.2)

  contains_at : (y : X) (xs : List X) (x : X) (k : ℕ) → k < length (y ∷ xs) → get_or (y ∷ xs) k x ≡ x → (y ≡ x) ⊎ Contains xs x
  contains_at y xs x zero p e = inl e
  contains_at y xs x (suc k) p e = inr (k, omega arith, e)

  contains_cons : (y : X) (xs : List X) (x : X) → Contains (y ∷ xs) x → (y ≡ x) ⊎ Contains xs x
  contains_cons y xs x c = contains_at y xs x c.0 c.1 c.2

  contains_nil : (x : X) → Contains [] x → ⊥
  contains_nil x c = let within = c.1 in omega arith

some_of : {X : Type 0} (o : Option X) → is_some o ≡ true → (x : X) × (o ≡ Some x)
some_of None h = absurd (not_both false h refl)
some_of (Some x) h = (x, refl)

either : (a b : Bool) → (a || b) ≡ true → (a ≡ true) ⊎ (b ≡ true)
either true b h = inl refl
either false b h = inr h

or_second : (a b : Bool) → b ≡ true → (a || b) ≡ true
or_second true b h = refl
or_second false b h = h

-- ---- the ends, in turn

some_settled : (m : State) (t : Txn) (o : Open) (committed : Bool) → after_settled m t (Some o) committed ≡ Some (or_same m (after_settled m t (Some o) committed))
some_settled m t o true = refl
some_settled m t o false = refl

if_open_to : (old : State) (e : Ended) (o : Option Open) (mid : State) → SettlesIfOpen old e o mid → or_same old (after_settled old e.txn o e.committed) ≡ mid
if_open_to old e None mid h = sym h
if_open_to old e (Some touched) mid h = ap (or_same old) (settles_to old e.txn (Some touched) e.committed mid h)

if_open_from : (old : State) (e : Ended) (o : Option Open) → SettlesIfOpen old e o (or_same old (after_settled old e.txn o e.committed))
if_open_from old e None = refl
if_open_from old e (Some touched) = settles_from old e.txn (Some touched) e.committed _ (some_settled old e.txn touched e.committed)

in_turn_to : (old : State) (ends : List Ended) (new : State) → SettleInTurn old ends new → new ≡ after_ends old ends
in_turn_to old [] new h = h
in_turn_to old (e ∷ ends) new h =
    in_turn_to h.0 ends new h.2 ∙ ap (λ m. after_ends m ends) (sym (if_open_to old e (fin.get old.opened e.txn) h.0 h.1))

in_turn_from : (old : State) (ends : List Ended) → SettleInTurn old ends (after_ends old ends)
in_turn_from old [] = refl
in_turn_from old (e ∷ ends) =
    (or_same old (settled_if_open old e), if_open_from old e (fin.get old.opened e.txn), in_turn_from (or_same old (settled_if_open old e)) ends)

-- ---- what a closed writer leaves

open_true : (m : State) (writer : Writer) (t : Txn) → IsOpenOf m writer t → is_open_of m writer t ≡ true
open_true m writer t h = both_true _ _ (writer_same t.writer writer h.0) (ap is_some h.2)

true_open : (m : State) (writer : Writer) (t : Txn) → is_open_of m writer t ≡ true → IsOpenOf m writer t
true_open m writer t h = let o = some_of (fin.get m.opened t) (second_true _ _ h) in (writer_is t.writer writer (first_true _ _ h), o.0, o.1)

abbrev put_of : DyingRow → PutKey
put_of d = record { txn = d.txn; table = d.row.table; key = d.row.key }

module _ (m : State) (writer : Writer) (d : DyingRow) where
  abbrev Locked : List PutKey → Type 0
  Locked puts = IsOpenOf m writer d.txn × Contains puts (put_of d)

  locked_one : (dying : sets.FinSet dying_cmp) (p : PutKey) (b : Bool) → is_open_of m writer p.txn ≡ b
      → sets.contains (cond b (sets.insert dying (locked_row p)) dying) d ≡ true → (sets.contains dying d ≡ true) ⊎ (IsOpenOf m writer d.txn × (p ≡ put_of d))
  locked_one dying p false is h = inl h
  locked_one dying p true is h = elim (either _ _ (sym (sets.contains-insert dying_cmp-total dying (locked_row p) d) ∙ h)) [
    | inl same ↦
        let same : d ≡ locked_row p = equal dying_cmp-total dying_cmp-exact d (locked_row p) same in
        inr (true_open m writer d.txn (ap (λ (x : DyingRow). is_open_of m writer x.txn) same ∙ is), sym (ap put_of same))
    | inr was ↦ inl was
  ]

  kept_one : (dying : sets.FinSet dying_cmp) (p : PutKey) (b : Bool) → sets.contains dying d ≡ true → sets.contains (cond b (sets.insert dying (locked_row p)) dying) d ≡ true
  kept_one dying p false h = h
  kept_one dying p true h = sets.contains-insert dying_cmp-total dying (locked_row p) d ∙ or_second _ _ h

  new_one : (dying : sets.FinSet dying_cmp) (p : PutKey) (b : Bool) → is_open_of m writer p.txn ≡ b → IsOpenOf m writer d.txn → p ≡ put_of d
      → sets.contains (cond b (sets.insert dying (locked_row p)) dying) d ≡ true
  new_one dying p false is o same = absurd (not_both _ (ap (λ (q : PutKey). is_open_of m writer q.txn) same ∙ open_true m writer d.txn o) is)
  new_one dying p true is o same =
      sets.contains-insert dying_cmp-total dying (locked_row p) d
      ∙ ap (λ b. b || sets.contains dying d) (ap (λ q. eq_by_cmp dying_cmp d (locked_row q)) same ∙ itself dying_cmp-total dying_cmp-exact d)

  locked_to : (dying : sets.FinSet dying_cmp) (puts : List PutKey) → sets.contains (with_locked dying m writer puts) d ≡ true → (sets.contains dying d ≡ true) ⊎ Locked puts
  locked_to dying [] h = inl h
  locked_to dying (p ∷ puts) h =
      elim (locked_to (cond (is_open_of m writer p.txn) (sets.insert dying (locked_row p)) dying) puts h) [
        | inl now ↦ elim (locked_one dying p (is_open_of m writer p.txn) refl now) [
          | inl was ↦ inl was
          | inr x ↦ inr (x.0, contains_first p (put_of d) puts x.1)
        ]
        | inr x ↦ inr (x.0, contains_tail p puts (put_of d) x.1)
      ]

  locked_from : (dying : sets.FinSet dying_cmp) (puts : List PutKey) → (sets.contains dying d ≡ true) ⊎ Locked puts → sets.contains (with_locked dying m writer puts) d ≡ true
  locked_from dying [] (inl h) = h
  locked_from dying [] (inr h) = absurd (contains_nil (put_of d) h.1)
  locked_from dying (p ∷ puts) (inl h) = locked_from (cond (is_open_of m writer p.txn) (sets.insert dying (locked_row p)) dying) puts (inl (kept_one dying p (is_open_of m writer p.txn) h))
  locked_from dying (p ∷ puts) (inr h) = elim (contains_cons p puts (put_of d) h.1) [
    | inl same ↦ locked_from (cond (is_open_of m writer p.txn) (sets.insert dying (locked_row p)) dying) puts (inl (new_one dying p (is_open_of m writer p.txn) refl h.0 same))
    | inr later ↦ locked_from (cond (is_open_of m writer p.txn) (sets.insert dying (locked_row p)) dying) puts (inr (h.0, later))
  ]

alike_txn : (p : Txn → Bool) (q x : Txn) → txn_cmp q x ≡ Equal → p x ≡ p q
alike_txn p q x h = ap p (sym (txn_cmp-exact q x h))

get_left : (m : State) (writer : Writer) (t : Txn) (b : Bool) → same_writer t.writer writer ≡ b
    → fin.get (fin.retain_keys m.opened (λ t. not (same_writer t.writer writer))) t ≡ cond (not b) (fin.get m.opened t) None
get_left m writer t b is =
    fin.get-retain_keys m.opened (λ t. not (same_writer t.writer writer)) t (alike_txn (λ t. not (same_writer t.writer writer)) t)
    ∙ ap (λ b. cond (not b) (fin.get m.opened t) None) is

leaves_to : (old : State) (writer : Writer) (puts : List PutKey) (new : State) → Leaves old writer puts new → new ≡ left old writer puts
leaves_to old writer puts new h =
    h.rest ∙ (λ i. record old { opened = opened i; dying = dying i; closed = sets.insert old.closed writer })
  where
    at : (t : Txn) (b : Bool) → same_writer t.writer writer ≡ b → fin.get new.opened t ≡ cond (not b) (fin.get old.opened t) None
    at t true is = h.gone t (writer_is t.writer writer is)
    at t false is = h.others t (λ own. not_both _ (writer_same t.writer writer own) is)

    opened : new.opened ≡ fin.retain_keys old.opened (λ t. not (same_writer t.writer writer))
    opened = fin.same_map txn_cmp-total txn_cmp-exact _ _ (λ t.
        at t (same_writer t.writer writer) refl ∙ sym (get_left old writer t (same_writer t.writer writer) refl))

    dying : new.dying ≡ with_locked old.dying old writer puts
    dying = sets.same_set dying_cmp-total dying_cmp-exact _ _ (λ d.
        same_truth _ _ (λ now. locked_from old writer d old.dying puts ((h.locked d.txn d.row).0 now)) (λ now. (h.locked d.txn d.row).1 (locked_to old writer d old.dying puts now)))

leaves_from : (old : State) (writer : Writer) (puts : List PutKey) → Leaves old writer puts (left old writer puts)
leaves_from old writer puts = record {
  gone = λ t own. get_left old writer t true (writer_same t.writer writer own);
  others = λ t other. get_left old writer t false (true_or_false _ (λ same. other (writer_is t.writer writer same)));
  locked = λ t key. let d : DyingRow = record { row = key; txn = t } in (locked_to old writer d old.dying puts, locked_from old writer d old.dying puts);
  rest = refl;
}

pub closes_to : (old : State) (writer : Writer) (ends : List Ended) (puts : List PutKey) (new : State) → Closes old writer ends puts new → after_closing old writer ends puts ≡ Some new
closes_to old writer ends puts new h =
    gives _ _ new (not_true _ h.open_) (leaves_to h.mid writer puts new h.left ∙ ap (λ m. left m writer puts) (in_turn_to old ends h.mid h.settled))

pub closes_from : (old : State) (writer : Writer) (ends : List Ended) (puts : List PutKey) (new : State) → after_closing old writer ends puts ≡ Some new → Closes old writer ends puts new
closes_from old writer ends puts new h =
    let n = needs (not (sets.contains old.closed writer)) (left (after_ends old ends) writer puts) new h in
    record {
      open_ = true_not _ n.0;
      mid = after_ends old ends;
      settled = in_turn_from old ends;
      left = subst (Leaves (after_ends old ends) writer puts) (sym n.1) (leaves_from (after_ends old ends) writer puts);
    }

-- ---- what a recovered writer frees

get_freed : (old : State) (writer : Writer) (d : DyingRow) (b : Bool) → same_writer d.txn.writer writer ≡ b
    → sets.contains (sets.retain old.dying (λ d. not (same_writer d.txn.writer writer))) d ≡ (sets.contains old.dying d && not b)
get_freed old writer d b is =
    sets.contains-retain old.dying (λ d. not (same_writer d.txn.writer writer)) d
    (λ x tied. ap (λ (d : DyingRow). not (same_writer d.txn.writer writer)) (sym (dying_cmp-exact d x tied)))
    ∙ ap (λ b. sets.contains old.dying d && not b) is

and_false : (a : Bool) → (a && false) ≡ false
and_false true = refl
and_false false = refl

and_true : (a : Bool) → (a && true) ≡ a
and_true true = refl
and_true false = refl

pub recovery_to : (old : State) (writer : Writer) (new : State) → IsRecovered old writer new → after_recovery old writer ≡ Some new
recovery_to old writer new h =
    gives _ _ new h.closed (h.rest ∙ ap (λ dying. record old { dying = dying; recovered = sets.insert old.recovered writer }) freed)
  where
    at : (d : DyingRow) (b : Bool) → same_writer d.txn.writer writer ≡ b → sets.contains new.dying d ≡ (sets.contains old.dying d && not b)
    at d true is = h.free d.txn d.row (writer_is d.txn.writer writer is) ∙ sym (and_false _)
    at d false is = h.others d.txn d.row (λ own. not_both _ (writer_same d.txn.writer writer own) is) ∙ sym (and_true _)

    freed : new.dying ≡ sets.retain old.dying (λ d. not (same_writer d.txn.writer writer))
    freed = sets.same_set dying_cmp-total dying_cmp-exact _ _ (λ d. at d (same_writer d.txn.writer writer) refl ∙ sym (get_freed old writer d (same_writer d.txn.writer writer) refl))

pub recovery_from : (old : State) (writer : Writer) (new : State) → after_recovery old writer ≡ Some new → IsRecovered old writer new
recovery_from old writer new h =
    let n = needs (sets.contains old.closed writer) (record old { dying = sets.retain old.dying (λ d. not (same_writer d.txn.writer writer)); recovered = sets.insert old.recovered writer }) new h in
    record {
      closed = n.0;
      free = λ t key own.
          ap (λ m. sets.contains m.dying (record { row = key; txn = t })) n.1 ∙ get_freed old writer (record { row = key; txn = t }) true (writer_same t.writer writer own) ∙ and_false _;
      others = λ t key other.
          ap (λ m. sets.contains m.dying (record { row = key; txn = t })) n.1
          ∙ get_freed old writer (record { row = key; txn = t }) false (true_or_false _ (λ same. other (writer_is t.writer writer same))) ∙ and_true _;
      rest = n.1 ∙ ap (λ dying. record old { dying = dying; recovered = sets.insert old.recovered writer }) (sym (ap (λ m. m.dying) n.1));
    }
