-- The relation of the steps and the function are one.
use Rattle.std.specs.Prelude.{◌≡◌, ◌≢◌, ℕ, List, Bool, true, false, not, ◌&&◌, Some, None, is_some, is_none}
use Rattle.std.proofs.Common.{refl, sym, ◌∙◌, ap}
use Rattle.std.specs.declared.option.Option.{Option}
use Rattle.std.specs.Cmp.{unsigned_Decides}
use Rattle.std.specs.Cmp.Lexicographic.{pointwise_decides}
use Rattle.std.specs.FinMap as fin
use Rattle.std.specs.FinSet as sets
use Rattle.tm_data.specs.declared.transaction.Txn.{Txn}
use Rattle.tm_data.specs.declared.transaction.Writer.{Writer}
use Rattle.tm_data.specs.declared.row_map.RowKey.{RowKey}
use Rattle.tm_data.specs.Orders.{row_cmp-total, row_cmp-exact, txn_cmp-total, txn_cmp-exact}
use Rattle.tm_base.specs.declared.command.Command.{Command}
use Rattle.tm_base.specs.declared.command.Command.TheVariants as command
use Rattle.tm_base.specs.declared.reply.Reply.{Reply}
use Rattle.tm_base.specs.declared.reply.Reply.TheVariants as reply
use Rattle.key_model.specs.State.{Open, State, session_cmp-total, session_cmp-exact, dying_cmp-total, dying_cmp-exact}
use Rattle.key_model.specs.Steps.{at, row_of, txn_in, OpenTxn, open_txn, NeverBegun, NoOtherWrote, NoOtherRead, NoneDying, IsDoomed, or_mapped, seen, IsBegun, IsValue, IsDone, IsEnded, Recovers, Answers, Settles, with_begun, with_settled}
use Rattle.key_model.specs.After.{same_writer, same_txn, same_row, same_value, same_outcome, is_fresh, other_wrote, other_read, has_dying, is_doomed, where_allowed, may_begin, after_begun, may_see, after_value, may_write, after_done, has_ended, after_ended, after_recovered, after_answer, with_all, after_settled}
use Rattle.key_index.proofs.AnyLemmas.{true_or_false, not_both, some_is, none_not_some, each_fails, none_passes, each_item_fails, no_item_passes}
use Rattle.key_model.proofs.ValuedLemmas.{get-with_all}

-- ---- truth values

pub both_true : (a b : Bool) → a ≡ true → b ≡ true → (a && b) ≡ true
both_true true b h g = g
both_true false b h g = h

pub first_true : (a b : Bool) → (a && b) ≡ true → a ≡ true
first_true true b h = refl
first_true false b h = h

pub second_true : (a b : Bool) → (a && b) ≡ true → b ≡ true
second_true true b h = h
second_true false b h = absurd (not_both false h refl)

pub not_true : (a : Bool) → a ≡ false → not a ≡ true
not_true a h = ap not h

pub true_not : (a : Bool) → not a ≡ true → a ≡ false
true_not true h = sym h
true_not false h = refl

none_true : {X : Type 0} (o : Option X) → o ≡ None → is_none o ≡ true
none_true o h = ap is_none h

pub true_none : {X : Type 0} (o : Option X) → is_none o ≡ true → o ≡ None
true_none None h = refl
true_none (Some x) h = absurd (not_both false h refl)

some_false : {X : Type 0} (o : Option X) → is_some o ≡ false → o ≡ None
some_false None h = refl
some_false (Some x) h = absurd (not_both true refl h)

-- ---- sameness

pub writer_is : (a b : Writer) → same_writer a b ≡ true → a ≡ b
writer_is a b h = λ i. record { 0 = (unsigned_Decides a.0 b.0).0 h i }

pub writer_same : (a b : Writer) → a ≡ b → same_writer a b ≡ true
writer_same a b h = (unsigned_Decides a.0 b.0).1 (ap (λ w. w.0) h)

pub txn_is : (a b : Txn) → same_txn a b ≡ true → a ≡ b
txn_is a b h = λ i. record {
  writer = record { 0 = (unsigned_Decides a.writer.0 b.writer.0).0 (first_true _ _ h) i };
  number = (unsigned_Decides a.number b.number).0 (second_true _ _ h) i;
}

pub txn_same : (a : Txn) → same_txn a a ≡ true
txn_same a = both_true _ _ ((unsigned_Decides a.writer.0 a.writer.0).1 refl) ((unsigned_Decides a.number a.number).1 refl)

pub row_is : (a b : RowKey) → same_row a b ≡ true → a ≡ b
row_is a b h = λ i. record {
  table = (unsigned_Decides a.table b.table).0 (first_true _ _ h) i;
  key = (pointwise_decides unsigned_Decides a.key b.key).0 (second_true _ _ h) i;
}

pub row_same : (a : RowKey) → same_row a a ≡ true
row_same a = both_true _ _ ((unsigned_Decides a.table a.table).1 refl) ((pointwise_decides unsigned_Decides a.key a.key).1 refl)

pub value_is : (a b : Option (List ℕ)) → same_value a b ≡ true → a ≡ b
value_is None None h = refl
value_is None (Some y) h = absurd (not_both false h refl)
value_is (Some x) None h = absurd (not_both false h refl)
value_is (Some x) (Some y) h = ap Some ((pointwise_decides unsigned_Decides x y).0 h)

pub value_same : (a : Option (List ℕ)) → same_value a a ≡ true
value_same None = refl
value_same (Some x) = (pointwise_decides unsigned_Decides x x).1 refl

outcome_is : (a b : Bool) → same_outcome a b ≡ true → a ≡ b
outcome_is true b h = sym h
outcome_is false b h = sym (true_not b h)

outcome_same : (a : Bool) → same_outcome a a ≡ true
outcome_same true = refl
outcome_same false = refl

-- ---- a step that is allowed

pub gives : (b : Bool) (s new : State) → b ≡ true → new ≡ s → where_allowed b s ≡ Some new
gives b s new h e = ap (λ a. where_allowed a s) h ∙ ap Some (sym e)

pub needs : (b : Bool) (s new : State) → where_allowed b s ≡ Some new → (b ≡ true) × (new ≡ s)
needs true s new h = (refl, sym (some_is s new h))
needs false s new h = absurd (none_not_some new h)

-- ---- what the tests say

module _ (m : State) where
  fresh_true : (t : Txn) → NeverBegun m t → is_fresh m t ≡ true
  fresh_true t h =
      both_true _ _
      (not_true _ (none_passes session_cmp-total session_cmp-exact m.sessions (λ e. same_txn e.1 t)
      (λ s u found. true_or_false _ (λ same. h.0 s (found ∙ ap Some (txn_is u t same))))))
      (none_true _ h.1)

  true_fresh : (t : Txn) → is_fresh m t ≡ true → NeverBegun m t
  true_fresh t h = (
    λ s found. not_both _ (txn_same t) (each_fails session_cmp-total session_cmp-exact m.sessions (λ e. same_txn e.1 t) (true_not _ (first_true _ _ h)) s t found),
    true_none _ (second_true _ _ h),
  )

  -- an other's test fails, or it is T
  apart : (u t : Txn) (x : Bool) → (u ≢ t → x ≡ false) → (not (same_txn u t) && x) ≡ false
  apart u t x h = by (same_txn u t) refl
    where
      by : (b : Bool) → same_txn u t ≡ b → (not b && x) ≡ false
      by true e = refl
      by false e = h (λ is. not_both _ (ap (λ v. same_txn v t) is ∙ txn_same t) e)

  apart_fails : (u t : Txn) (x : Bool) → u ≢ t → (not (same_txn u t) && x) ≡ false → x ≡ false
  apart_fails u t x other h = sym (ap (λ b. not b && x) (true_or_false (same_txn u t) (λ same. other (txn_is u t same)))) ∙ h

  wrote_false : (t : Txn) (key : RowKey) → NoOtherWrote m t key → other_wrote m t key ≡ false
  wrote_false t key h =
      none_passes txn_cmp-total txn_cmp-exact m.opened (λ e. not (same_txn e.0 t) && is_some (fin.get e.1.writes key))
      (λ u o found. apart u t _ (λ other. ap is_some (h u o other found)))

  false_wrote : (t : Txn) (key : RowKey) → other_wrote m t key ≡ false → NoOtherWrote m t key
  false_wrote t key h u o other found =
      some_false _ (apart_fails u t _ other (each_fails txn_cmp-total txn_cmp-exact m.opened (λ e. not (same_txn e.0 t) && is_some (fin.get e.1.writes key)) h u o found))

  read_false : (t : Txn) (key : RowKey) → NoOtherRead m t key → other_read m t key ≡ false
  read_false t key h =
      none_passes txn_cmp-total txn_cmp-exact m.opened (λ e. not (same_txn e.0 t) && fin.contains_key e.1.reads key)
      (λ u o found. apart u t _ (λ other. h u o other found))

  false_read : (t : Txn) (key : RowKey) → other_read m t key ≡ false → NoOtherRead m t key
  false_read t key h u o other found =
      apart_fails u t _ other (each_fails txn_cmp-total txn_cmp-exact m.opened (λ e. not (same_txn e.0 t) && fin.contains_key e.1.reads key) h u o found)

  dying_false : (key : RowKey) → NoneDying m key → has_dying m key ≡ false
  dying_false key h =
      no_item_passes dying_cmp-total dying_cmp-exact m.dying (λ d. same_row d.row key)
      (λ d same. ap (λ r. sets.contains m.dying (record { row = r; txn = d.txn })) (row_is d.row key same) ∙ h d.txn)

  false_dying : (key : RowKey) → has_dying m key ≡ false → NoneDying m key
  false_dying key h u = each_item_fails dying_cmp-total dying_cmp-exact m.dying (λ d. same_row d.row key) h (record { row = key; txn = u }) (row_same key)

  pub doomed_true : (mine : Option Txn) → IsDoomed m mine → is_doomed m mine ≡ true
  doomed_true None h = absurd h
  doomed_true (Some t) h = both_true _ _ h.0 (none_true _ h.1)

  pub true_doomed : (mine : Option Txn) → is_doomed m mine ≡ true → IsDoomed m mine
  true_doomed None h = absurd (not_both false h refl)
  true_doomed (Some t) h = (first_true _ _ h, true_none _ (second_true _ _ h))

-- ---- each kind of step

begun_to : (old : State) (writer : Option Writer) (session : ℕ) (t : Txn) (new : State) → IsBegun old writer session t new → after_begun old writer session t ≡ Some new
begun_to old None session t new h = absurd h
begun_to old (Some w) session t new h =
    gives _ _ new (both_true _ _ (both_true _ _ (none_true _ h.vacant) (fresh_true old t h.fresh)) (writer_same t.writer w h.own)) h.begun

begun_from : (old : State) (writer : Option Writer) (session : ℕ) (t : Txn) (new : State) → after_begun old writer session t ≡ Some new → IsBegun old writer session t new
begun_from old None session t new h = absurd (none_not_some new h)
begun_from old (Some w) session t new h =
    let n = needs (may_begin old (at w session) t) (with_begun old (at w session) t) new h in
    let first = first_true _ _ n.0 in
    record {
      vacant = true_none _ (first_true _ _ first);
      fresh = true_fresh old t (second_true _ _ first);
      own = writer_is t.writer w (second_true _ _ n.0);
      begun = n.1;
    }

value_to : (old : State) (mine : Option OpenTxn) (key : RowKey) (value : Option (List ℕ)) (new : State) → IsValue old mine key value new → after_value old mine key value ≡ Some new
value_to old None key value new h = absurd h
value_to old (Some mine) key value new h =
    gives _ _ new
    (both_true _ _ (both_true _ _ (not_true _ (wrote_false old mine.txn key h.unwritten)) (not_true _ (dying_false old key h.unlocked)))
    (ap (λ v. same_value v (seen old mine.touched key)) h.seen ∙ value_same (seen old mine.touched key)))
    h.noted

value_from : (old : State) (mine : Option OpenTxn) (key : RowKey) (value : Option (List ℕ)) (new : State) → after_value old mine key value ≡ Some new → IsValue old mine key value new
value_from old None key value new h = absurd (none_not_some new h)
value_from old (Some mine) key value new h =
    let n = needs (may_see old mine.txn mine.touched key value) _ new h in
    let first = first_true _ _ n.0 in
    record {
      unwritten = false_wrote old mine.txn key (true_not _ (first_true _ _ first));
      unlocked = false_dying old key (true_not _ (second_true _ _ first));
      seen = value_is value _ (second_true _ _ n.0);
      noted = n.1;
    }

done_to : (old : State) (mine : Option OpenTxn) (key : RowKey) (value : Option (List ℕ)) (new : State) → IsDone old mine key value new → after_done old mine key value ≡ Some new
done_to old None key value new h = absurd h
done_to old (Some mine) key value new h =
    gives _ _ new
    (both_true _ _ (both_true _ _ (not_true _ (wrote_false old mine.txn key h.unwritten)) (not_true _ (read_false old mine.txn key h.unread)))
    (not_true _ (dying_false old key h.unlocked)))
    h.written

done_from : (old : State) (mine : Option OpenTxn) (key : RowKey) (value : Option (List ℕ)) (new : State) → after_done old mine key value ≡ Some new → IsDone old mine key value new
done_from old None key value new h = absurd (none_not_some new h)
done_from old (Some mine) key value new h =
    let n = needs (may_write old mine.txn key) _ new h in
    let first = first_true _ _ n.0 in
    record {
      unwritten = false_wrote old mine.txn key (true_not _ (first_true _ _ first));
      unread = false_read old mine.txn key (true_not _ (second_true _ _ first));
      unlocked = false_dying old key (true_not _ (second_true _ _ n.0));
      written = n.1;
    }

ended_is : (own : Option Txn) (t : Txn) (outcome : Option Bool) (committed : Bool) → has_ended own t outcome committed ≡ true → (own ≡ Some t) × (outcome ≡ Some committed)
ended_is None t outcome committed h = absurd (not_both false h refl)
ended_is (Some own) t None committed h = absurd (not_both false h refl)
ended_is (Some own) t (Some outcome) committed h = (ap Some (txn_is own t (first_true _ _ h)), ap Some (outcome_is outcome committed (second_true _ _ h)))

ended_to : (old : State) (writer : Option Writer) (session : ℕ) (t : Txn) (committed : Bool) (new : State) → IsEnded old writer session t committed new → after_ended old writer session t committed ≡ Some new
ended_to old None session t committed new h = absurd h
ended_to old (Some w) session t committed new h =
    gives _ _ new
    (ap (λ own. has_ended own t (fin.get old.settled t) committed) h.own ∙ ap (λ outcome. has_ended (Some t) t outcome committed) h.final
    ∙ both_true _ _ (txn_same t) (outcome_same committed))
    h.freed

ended_from : (old : State) (writer : Option Writer) (session : ℕ) (t : Txn) (committed : Bool) (new : State) → after_ended old writer session t committed ≡ Some new → IsEnded old writer session t committed new
ended_from old None session t committed new h = absurd (none_not_some new h)
ended_from old (Some w) session t committed new h =
    let n = needs (has_ended (fin.get old.sessions (at w session)) t (fin.get old.settled t) committed) _ new h in
    let is = ended_is (fin.get old.sessions (at w session)) t (fin.get old.settled t) committed n.0 in
    record { own = is.0; final = is.1; freed = n.1 }

recovered_to : (old : State) (asked said : Writer) (new : State) → Recovers old asked said new → after_recovered old asked said ≡ Some new
recovered_to old asked said new h = gives _ _ new (both_true _ _ (writer_same said asked h.same) h.recovered) h.unchanged

recovered_from : (old : State) (asked said : Writer) (new : State) → after_recovered old asked said ≡ Some new → Recovers old asked said new
recovered_from old asked said new h =
    let n = needs (same_writer said asked && sets.contains old.recovered asked) old new h in
    record { same = writer_is said asked (first_true _ _ n.0); recovered = second_true _ _ n.0; unchanged = n.1 }

pub answers_to : (old : State) (writer : Option Writer) (session : ℕ) (c : Command) (r : Reply) (new : State) → Answers old writer session c r new → after_answer old writer session c r ≡ Some new
answers_to old writer session command.Begin (reply.Begun t) new h = begun_to old writer session t new h
answers_to old writer session (command.Get table key) (reply.Value value) new h = value_to old (open_txn old (txn_in old writer session)) (row_of table key) value new h
answers_to old writer session (command.Put table key value) reply.Done new h = done_to old (open_txn old (txn_in old writer session)) (row_of table key) (Some value) new h
answers_to old writer session (command.Del table key) reply.Done new h = done_to old (open_txn old (txn_in old writer session)) (row_of table key) None new h
answers_to old writer session command.Commit (reply.Committed t) new h = ended_to old writer session t true new h
answers_to old writer session command.Abort (reply.Aborted t) new h = ended_to old writer session t false new h
answers_to old writer session (command.Recover asked) (reply.Recovered said) new h = recovered_to old asked said new h
answers_to old writer session _ (reply.Begun t) new h = absurd h
answers_to old writer session _ (reply.Value value) new h = absurd h
answers_to old writer session _ reply.Done new h = absurd h
answers_to old writer session _ (reply.Committed t) new h = absurd h
answers_to old writer session _ (reply.Aborted t) new h = absurd h
answers_to old writer session _ (reply.Recovered said) new h = absurd h
answers_to old writer session _ _ new h = ap Some (sym h)

pub answers_from : (old : State) (writer : Option Writer) (session : ℕ) (c : Command) (r : Reply) (new : State) → after_answer old writer session c r ≡ Some new → Answers old writer session c r new
answers_from old writer session command.Begin (reply.Begun t) new h = begun_from old writer session t new h
answers_from old writer session (command.Get table key) (reply.Value value) new h = value_from old (open_txn old (txn_in old writer session)) (row_of table key) value new h
answers_from old writer session (command.Put table key value) reply.Done new h = done_from old (open_txn old (txn_in old writer session)) (row_of table key) (Some value) new h
answers_from old writer session (command.Del table key) reply.Done new h = done_from old (open_txn old (txn_in old writer session)) (row_of table key) None new h
answers_from old writer session command.Commit (reply.Committed t) new h = ended_from old writer session t true new h
answers_from old writer session command.Abort (reply.Aborted t) new h = ended_from old writer session t false new h
answers_from old writer session (command.Recover asked) (reply.Recovered said) new h = recovered_from old asked said new h
answers_from old writer session _ (reply.Begun t) new h = absurd (none_not_some new h)
answers_from old writer session _ (reply.Value value) new h = absurd (none_not_some new h)
answers_from old writer session _ reply.Done new h = absurd (none_not_some new h)
answers_from old writer session _ (reply.Committed t) new h = absurd (none_not_some new h)
answers_from old writer session _ (reply.Aborted t) new h = absurd (none_not_some new h)
answers_from old writer session _ (reply.Recovered said) new h = absurd (none_not_some new h)
answers_from old writer session _ _ new h = sym (some_is old new h)

pub settles_to : (old : State) (t : Txn) (o : Option Open) (committed : Bool) (new : State) → Settles old t o committed new → after_settled old t o committed ≡ Some new
settles_to old t None committed new h = absurd h
settles_to old t (Some o) true new h =
    let entered : with_all old.map (fin.entries o.writes) ≡ new.map =
    fin.same_map row_cmp-total row_cmp-exact _ _ (λ key.
    get-with_all old.map (fin.entries o.writes) (fin.entries_sorted o.writes) key
    ∙ ap (λ w. or_mapped w (fin.get old.map key)) (sym (fin.get-entries o.writes key)) ∙ sym (h.entered key)) in
    ap (λ map. Some (record (with_settled old t true) { map = map })) entered ∙ ap Some (sym h.settled)
settles_to old t (Some o) false new h = ap Some (sym h)

pub settles_from : (old : State) (t : Txn) (o : Option Open) (committed : Bool) (new : State) → after_settled old t o committed ≡ Some new → Settles old t o committed new
settles_from old t None committed new h = absurd (none_not_some new h)
settles_from old t (Some o) true new h =
    let is : record (with_settled old t true) { map = with_all old.map (fin.entries o.writes) } ≡ new = some_is _ new h in
    record {
      entered = λ key.
          ap (λ s. fin.get s.map key) (sym is) ∙ get-with_all old.map (fin.entries o.writes) (fin.entries_sorted o.writes) key
          ∙ ap (λ w. or_mapped w (fin.get old.map key)) (sym (fin.get-entries o.writes key));
      settled = sym is ∙ ap (λ map. record (with_settled old t true) { map = map }) (ap (λ s. s.map) is);
    }
settles_from old t (Some o) false new h = sym (some_is _ new h)
