-- What a close finds before anything changes is what the ends do in turn.
use Rattle.std.specs.Prelude.{◌≡◌, ℕ, List, [], ◌∷◌, Bool, true, false, cond, not, ◌&&◌, Some, None, is_some, is_none}
use Rattle.std.proofs.Common.{refl, sym, ◌∙◌, ap}
use Rattle.std.specs.declared.option.Option.{Option}
use Rattle.std.specs.Option.{option_or}
use Rattle.std.specs.Ordering.{eq_by_cmp}
use Rattle.std.specs.FinMap as fin
use Rattle.std.specs.FinMap.{FinMap}
use Rattle.std.specs.FinSet as sets
use Rattle.tm_data.specs.declared.transaction.Txn.{Txn}
use Rattle.tm_data.specs.declared.transaction.Writer.{Writer}
use Rattle.tm_data.specs.declared.row_map.RowKey.{RowKey}
use Rattle.tm_data.specs.Orders.{row_cmp, row_cmp-total, row_cmp-exact, txn_cmp, txn_cmp-total, txn_cmp-exact}
use Rattle.tm_data.specs.Maps.{entries-empty}
use Rattle.key_model.specs.declared.events.Ended.{Ended}
use Rattle.key_model.specs.declared.events.PutKey.{PutKey}
use Rattle.key_model.specs.declared.closing.Ending.{Ending}
use Rattle.key_model.specs.State.{Open, State, DyingRow, dying_cmp}
use Rattle.key_model.specs.Steps.{or_mapped}
use Rattle.key_model.specs.After.{same_writer, with_all, after_settled, or_same, after_ends, is_open_of, locked_row, with_locked, left, where_allowed, told, after_closing, after_recovery}
use Rattle.key_model.specs.Inside.{over, with_rows, no_ending, writes_with, ending_if, all_ending, is_left, rows_left}
use Rattle.key_index.proofs.AnyLemmas.{get-kept}
use Rattle.key_model.proofs.PlaceLemmas.{get-over_map}
use Rattle.key_model.proofs.ValuedLemmas.{get-with_all}

-- the state after the ends that were found
abbrev planned : State → Ending → State
planned m g = record m {
  map = with_all m.map (fin.entries g.writes);
  opened = fin.retain_keys m.opened (λ t. is_none (fin.get g.outcomes t));
  settled = over m.settled (fin.entries g.outcomes);
}

planned-none : (m : State) → planned m no_ending ≡ m
planned-none m = λ i. record m {
  map = with_all m.map (entries-empty {X = Option (List ℕ)} row_cmp i);
  opened = opened i;
  settled = over m.settled (entries-empty {X = Bool} txn_cmp i);
}
  where
    opened : fin.retain_keys m.opened (λ t. is_none (fin.get (fin.empty {X = Bool} {R = txn_cmp}) t)) ≡ m.opened
    opened = fin.same_map txn_cmp-total txn_cmp-exact _ _ (λ t.
        get-kept txn_cmp-total txn_cmp-exact m.opened (λ t. is_none (fin.get (fin.empty {X = Bool} {R = txn_cmp}) t)) t
        ∙ ap (λ o. cond (is_none o) (fin.get m.opened t) None) (fin.get-empty txn_cmp t))

-- ---- one more transaction ends

without_one : (b : Bool) (c : Bool) (o : Option Bool) (x : Option Open) → cond b None (cond (is_none o) x None) ≡ cond (is_none (cond b (Some c) o)) x None
without_one true c o x = refl
without_one false c o x = refl

with_one : (b : Bool) (c : Bool) (o x : Option Bool) → cond b (Some c) (option_or o x) ≡ option_or (cond b (Some c) o) x
with_one true c o x = refl
with_one false c o x = refl

written_twice : (w v : Option (Option (List ℕ))) (x : Option (List ℕ)) → or_mapped w (or_mapped v x) ≡ or_mapped (option_or w v) x
written_twice None v x = refl
written_twice (Some w) v x = refl

module _ (m : State) (g : Ending) (t : Txn) where
  opened_one : (c : Bool) → fin.remove (fin.retain_keys m.opened (λ u. is_none (fin.get g.outcomes u))) t ≡ fin.retain_keys m.opened (λ u. is_none (fin.get (fin.insert g.outcomes t c) u))
  opened_one c = fin.same_map txn_cmp-total txn_cmp-exact _ _ (λ q.
      fin.get-remove txn_cmp-total (fin.retain_keys m.opened (λ u. is_none (fin.get g.outcomes u))) t q
      ∙ ap (cond (eq_by_cmp txn_cmp q t) None) (get-kept txn_cmp-total txn_cmp-exact m.opened (λ u. is_none (fin.get g.outcomes u)) q)
      ∙ without_one (eq_by_cmp txn_cmp q t) c (fin.get g.outcomes q) (fin.get m.opened q)
      ∙ ap (λ o. cond (is_none o) (fin.get m.opened q) None) (sym (fin.get-insert txn_cmp-total g.outcomes t c q))
      ∙ sym (get-kept txn_cmp-total txn_cmp-exact m.opened (λ u. is_none (fin.get (fin.insert g.outcomes t c) u)) q))

  settled_one : (c : Bool) → fin.insert (over m.settled (fin.entries g.outcomes)) t c ≡ over m.settled (fin.entries (fin.insert g.outcomes t c))
  settled_one c = fin.same_map txn_cmp-total txn_cmp-exact _ _ (λ q.
      fin.get-insert txn_cmp-total (over m.settled (fin.entries g.outcomes)) t c q
      ∙ ap (cond (eq_by_cmp txn_cmp q t) (Some c)) (get-over_map txn_cmp-total txn_cmp-exact m.settled g.outcomes q)
      ∙ with_one (eq_by_cmp txn_cmp q t) c (fin.get g.outcomes q) (fin.get m.settled q)
      ∙ ap (λ o. option_or o (fin.get m.settled q)) (sym (fin.get-insert txn_cmp-total g.outcomes t c q))
      ∙ sym (get-over_map txn_cmp-total txn_cmp-exact m.settled (fin.insert g.outcomes t c) q))

  get-written : (w : FinMap row_cmp (Option (List ℕ))) (map : FinMap row_cmp (List ℕ)) (q : RowKey) → fin.get (with_all map (fin.entries w)) q ≡ or_mapped (fin.get w q) (fin.get map q)
  get-written w map q =
      get-with_all map (fin.entries w) (fin.entries_sorted w) q ∙ ap (λ o. or_mapped o (fin.get map q)) (sym (fin.get-entries w q))

  map_one : (w : FinMap row_cmp (Option (List ℕ))) → with_all (with_all m.map (fin.entries g.writes)) (fin.entries w) ≡ with_all m.map (fin.entries (over g.writes (fin.entries w)))
  map_one w = fin.same_map row_cmp-total row_cmp-exact _ _ (λ q.
      get-written w (with_all m.map (fin.entries g.writes)) q ∙ ap (or_mapped (fin.get w q)) (get-written g.writes m.map q)
      ∙ written_twice (fin.get w q) (fin.get g.writes q) (fin.get m.map q)
      ∙ ap (λ o. or_mapped o (fin.get m.map q)) (sym (get-over_map row_cmp-total row_cmp-exact g.writes w q))
      ∙ sym (get-written (over g.writes (fin.entries w)) m.map q))

  planned-one : (touched : Open) (c : Bool)
      → or_same (planned m g) (after_settled (planned m g) t (Some touched) c) ≡ planned m (record { outcomes = fin.insert g.outcomes t c; writes = writes_with c g.writes touched.writes })
  planned-one touched true = λ i. record m { map = map_one touched.writes i; opened = opened_one true i; settled = settled_one true i }
  planned-one touched false = λ i. record m { map = with_all m.map (fin.entries g.writes); opened = opened_one false i; settled = settled_one false i }

never : (b : Option Bool) → ◌≡◌ {A = Option Open} (cond (is_none b) None None) None
never None = refl
never (Some c) = refl

module _ (m : State) where
  planned-if : (g : Ending) (e : Ended) (o : Option Open) (b : Option Bool) → or_same (planned m g) (after_settled (planned m g) e.txn (cond (is_none b) o None) e.committed) ≡ planned m (ending_if g e o b)
  planned-if g e None b = ap (λ o. or_same (planned m g) (after_settled (planned m g) e.txn o e.committed)) (never b)
  planned-if g e (Some touched) (Some c) = refl
  planned-if g e (Some touched) None = planned-one m g e.txn touched e.committed

  planned-all : (g : Ending) (ends : List Ended) → after_ends (planned m g) ends ≡ planned m (all_ending m.opened g ends)
  planned-all g [] = refl
  planned-all g (e ∷ ends) =
      ap (λ n. after_ends n ends)
      (ap (λ o. or_same (planned m g) (after_settled (planned m g) e.txn o e.committed)) (get-kept txn_cmp-total txn_cmp-exact m.opened (λ t. is_none (fin.get g.outcomes t)) e.txn)
      ∙ planned-if g e (fin.get m.opened e.txn) (fin.get g.outcomes e.txn))
      ∙ planned-all (ending_if g e (fin.get m.opened e.txn) (fin.get g.outcomes e.txn)) ends

-- ---- what is left

both_kept : (a : Bool) (o : Option Bool) (x : Option Open) → cond (not a) (cond (is_none o) x None) None ≡ cond (not a && is_none o) x None
both_kept true o x = refl
both_kept false o x = refl

open_left : (a : Bool) (o : Option Bool) (x : Option Open) → (a && is_some (cond (is_none o) x None)) ≡ (a && (is_some x && is_none o))
open_left false o x = refl
open_left true None None = refl
open_left true None (Some x) = refl
open_left true (Some c) None = refl
open_left true (Some c) (Some x) = refl

locked_one : (b : Bool) (dying : sets.FinSet dying_cmp) (d : DyingRow) (ds : List DyingRow) → with_rows dying (cond b (d ∷ ds) ds) ≡ with_rows (cond b (sets.insert dying d) dying) ds
locked_one true dying d ds = refl
locked_one false dying d ds = refl

module _ (m : State) (g : Ending) (writer : Writer) where
  opened_left : fin.retain_keys (fin.retain_keys m.opened (λ t. is_none (fin.get g.outcomes t))) (λ t. not (same_writer t.writer writer))
      ≡ fin.retain_keys m.opened (λ t. not (same_writer t.writer writer) && is_none (fin.get g.outcomes t))
  opened_left = fin.same_map txn_cmp-total txn_cmp-exact _ _ (λ q.
      get-kept txn_cmp-total txn_cmp-exact (fin.retain_keys m.opened (λ t. is_none (fin.get g.outcomes t))) (λ t. not (same_writer t.writer writer)) q
      ∙ ap (λ o. cond (not (same_writer q.writer writer)) o None) (get-kept txn_cmp-total txn_cmp-exact m.opened (λ t. is_none (fin.get g.outcomes t)) q)
      ∙ both_kept (same_writer q.writer writer) (fin.get g.outcomes q) (fin.get m.opened q)
      ∙ sym (get-kept txn_cmp-total txn_cmp-exact m.opened (λ t. not (same_writer t.writer writer) && is_none (fin.get g.outcomes t)) q))

  rows_locked : (dying : sets.FinSet dying_cmp) (puts : List PutKey) → with_locked dying (planned m g) writer puts ≡ with_rows dying (rows_left m.opened g.outcomes writer puts)
  rows_locked dying [] = refl
  rows_locked dying (p ∷ puts) =
      let same : is_open_of (planned m g) writer p.txn ≡ is_left m.opened g.outcomes writer p.txn =
      ap (λ o. same_writer p.txn.writer writer && is_some o) (get-kept txn_cmp-total txn_cmp-exact m.opened (λ t. is_none (fin.get g.outcomes t)) p.txn)
      ∙ open_left (same_writer p.txn.writer writer) (fin.get g.outcomes p.txn) (fin.get m.opened p.txn) in
      ap (λ b. with_locked (cond b (sets.insert dying (locked_row p)) dying) (planned m g) writer puts) same
      ∙ rows_locked (cond (is_left m.opened g.outcomes writer p.txn) (sets.insert dying (locked_row p)) dying) puts
      ∙ sym (locked_one (is_left m.opened g.outcomes writer p.txn) dying (locked_row p) (rows_left m.opened g.outcomes writer puts))

-- what a close makes of a state, from what it found
abbrev pub closed_by : State → Ending → Writer → List DyingRow → State
closed_by m g writer rows = record m {
  map = with_all m.map (fin.entries g.writes);
  opened = fin.retain_keys m.opened (λ t. not (same_writer t.writer writer) && is_none (fin.get g.outcomes t));
  dying = with_rows m.dying rows;
  settled = over m.settled (fin.entries g.outcomes);
  closed = sets.insert m.closed writer;
}

left_by : (m : State) (g : Ending) (writer : Writer) (puts : List PutKey) → left (planned m g) writer puts ≡ closed_by m g writer (rows_left m.opened g.outcomes writer puts)
left_by m g writer puts = λ i. record m {
  map = with_all m.map (fin.entries g.writes);
  opened = opened_left m g writer i;
  dying = rows_locked m g writer m.dying puts i;
  settled = over m.settled (fin.entries g.outcomes);
  closed = sets.insert m.closed writer;
}

pub close_is : (m : State) (writer : Writer) (ends : List Ended) (puts : List PutKey) (g : Ending) (rows : List DyingRow)
    → g ≡ all_ending m.opened no_ending ends → rows ≡ rows_left m.opened g.outcomes writer puts → closed_by m g writer rows ≡ left (after_ends m ends) writer puts
close_is m writer ends puts g rows found locked =
    ap (closed_by m g writer) locked ∙ sym (left_by m g writer puts)
    ∙ ap (λ n. left n writer puts) (ap (planned m) found ∙ sym (planned-all m no_ending ends) ∙ ap (λ n. after_ends n ends) (planned-none m))

-- ---- what the running machine tells

pub closed_told : (m new : State) (writer : Writer) (ends : List Ended) (puts : List PutKey) → sets.contains m.closed writer ≡ false
    → new ≡ left (after_ends m ends) writer puts → (new, true) ≡ told m (after_closing m writer ends puts)
closed_told m new writer ends puts open_ is =
    ap (λ (s : State). (s, true)) is ∙ sym (ap (λ b. told m (where_allowed (not b) (left (after_ends m ends) writer puts))) open_)

pub recovered_told : (m new : State) (writer : Writer) → sets.contains m.closed writer ≡ true
    → new ≡ record m { dying = sets.retain m.dying (λ d. not (same_writer d.txn.writer writer)); recovered = sets.insert m.recovered writer }
    → (new, true) ≡ told m (after_recovery m writer)
recovered_told m new writer closed is =
    ap (λ (s : State). (s, true)) is
    ∙ sym (ap (λ b. told m (where_allowed b (record m { dying = sets.retain m.dying (λ d. not (same_writer d.txn.writer writer)); recovered = sets.insert m.recovered writer }))) closed)
