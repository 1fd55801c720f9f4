-- Which pages and rows are kept of the groups that were read.
use Rattle.std.specs.Prelude.{◌≡◌, ℕ, Bool, true, false, cond, not, ◌&&◌, ◌||◌, T, nat_eq, List, [], ◌∷◌, Some, None, is_some}
use Rattle.std.proofs.Common.{refl, sym, ◌∙◌, ap}
use Rattle.std.specs.declared.cmp.Ordering.{Ordering}
use Rattle.std.specs.declared.cmp.Ordering.TheVariants.{Less, Equal, Greater}
use Rattle.std.specs.declared.option.Option.{Option}
use Rattle.std.specs.Ordering.{nat_cmp, eq_by_cmp, is_lt}
use Rattle.std.specs.Cmp.{nat_cmp_total, unsigned_tied}
use Rattle.std.specs.List.{list_any, AllByRecursion}
use Rattle.std.specs.List.Sorted.{IsStrictlySortedBy}
use Rattle.std.specs.Map.{keys_of}
use Rattle.std.specs.FinMap as fin
use Rattle.std.specs.FinMap.{FinMap, is_sorted}
use Rattle.std.specs.FinMap.Entries.{below_all}
use Rattle.tm_data.specs.declared.log.Group.{Group}
use Rattle.tm_data.specs.declared.log.Record.{Record}
use Rattle.tm_data.specs.declared.log.Record.TheVariants.{RowSet, Cut, Format, NodeAdd, End, Beat}
use Rattle.page_model.specs.Effects.{page_of}
use Rattle.master_model.specs.Recovery.{WrittenRow, have_end, to_undo, with_groups, with_stamp, written_cmp, WrittenRows, with_row, with_rows, written_by}
use Rattle.master_model.specs.Recovery as model
use Rattle.master_recovery.specs.Gathered.{row_named}
use Rattle.master_recovery.specs.Rows.{written_cmp-exact, written_cmp-total}
use Rattle.master_recovery.specs.ReadRows.{changes, is_among, is_page, is_write, last_stamp, later, stamp_if, writes}
use Rattle.master_recovery.proofs.PlaceLemmas.{equal, first_of_both, get-kept, second_of_both}

-- ---- pages

stamp_put : (m : FinMap nat_cmp ℕ) (stamp page : ℕ) (o : Option ℕ) → fin.get (with_stamp m stamp o) page ≡ later (fin.get m page) (stamp_if (is_page page o) stamp)
stamp_put m stamp page None = refl
stamp_put m stamp page (Some changed) =
    fin.get-insert nat_cmp_total m changed stamp page ∙ by (eq_by_cmp nat_cmp page changed)
    ∙ ap (λ b. later (fin.get m page) (stamp_if b stamp)) (unsigned_tied page changed)
  where
    by : (b : Bool) → cond b (Some stamp) (fin.get m page) ≡ later (fin.get m page) (stamp_if b stamp)
    by true = refl
    by false = refl

later_if : (o : Option ℕ) (a b : Bool) (stamp : ℕ) → later (later o (stamp_if a stamp)) (stamp_if b stamp) ≡ later o (stamp_if (a || b) stamp)
later_if o true true stamp = refl
later_if o true false stamp = refl
later_if o false b stamp = refl

later_of_later : (a b c : Option ℕ) → later (later a b) c ≡ later a (later b c)
later_of_later a b None = refl
later_of_later a b (Some c) = refl

records_stamp : (m : FinMap nat_cmp ℕ) (stamp page : ℕ) (rs : List Record)
    → fin.get (model.with_records m stamp rs) page ≡ later (fin.get m page) (stamp_if (list_any (λ r. is_page page (page_of r)) rs) stamp)
records_stamp m stamp page [] = refl
records_stamp m stamp page (r ∷ rs) =
    records_stamp (with_stamp m stamp (page_of r)) stamp page rs
    ∙ ap (λ o. later o (stamp_if (list_any (λ r. is_page page (page_of r)) rs) stamp)) (stamp_put m stamp page (page_of r))
    ∙ later_if (fin.get m page) (is_page page (page_of r)) (list_any (λ r. is_page page (page_of r)) rs) stamp

groups_stamp : (m : FinMap nat_cmp ℕ) (page : ℕ) (gs : List Group) → fin.get (with_groups m gs) page ≡ later (fin.get m page) (last_stamp gs page)
groups_stamp m page [] = refl
groups_stamp m page (g ∷ gs) =
    groups_stamp (model.with_records m g.stamp.0 g.records) page gs
    ∙ ap (λ o. later o (last_stamp gs page)) (records_stamp m g.stamp.0 page g.records)
    ∙ later_of_later (fin.get m page) (stamp_if (changes g page) g.stamp.0) (last_stamp gs page)

later_none : (o : Option ℕ) → later None o ≡ o
later_none None = refl
later_none (Some x) = refl

pub pages_are_last : (gs : List Group) (page : ℕ) → fin.get (with_groups fin.empty gs) page ≡ last_stamp gs page
pages_are_last gs page = groups_stamp fin.empty page gs ∙ ap (λ o. later o (last_stamp gs page)) (fin.get-empty nat_cmp page) ∙ later_none (last_stamp gs page)

-- ---- rows

or_false : (a : Bool) → a ≡ (a || false)
or_false true = refl
or_false false = refl

and_false : (a : Bool) → (a && false) ≡ false
and_false true = refl
and_false false = refl

one_row : (own b c n : Bool) → (b ≡ true → n ≡ own) → cond own (b || c) c ≡ (c || (n && b))
one_row own true c n h = by own n (h refl) c
  where
    by : (own n : Bool) → n ≡ own → (c : Bool) → cond own true c ≡ (c || (n && true))
    by true true e true = refl
    by true true e false = refl
    by true false e c = absurd (cc e)
    by false true e c = absurd (cc e)
    by false false e true = refl
    by false false e false = refl
one_row own false c n h = by own ∙ or_false c ∙ sym (ap (λ z. c || z) (and_false n))
  where
    by : (own : Bool) → cond own c c ≡ c
    by true = refl
    by false = refl

joins : (c n b rest : Bool) → ((c || (n && b)) || (n && rest)) ≡ (c || (n && (b || rest)))
joins true n b rest = refl
joins false true b rest = refl
joins false false b rest = refl

-- which rows one more record has
module _ {S : Type 0} (has : S → WrittenRow → Bool) (put : S → WrittenRow → S) (w : WrittenRow) (puts : (s : S) (x : WrittenRow) → has (put s x) w ≡ (eq_by_cmp written_cmp w x || has s w)) where
  row_has : (s : S) (writer : ℕ) (x : WrittenRow)
      → has (cond (nat_eq x.txn.writer.0 writer) (put s x) s) w ≡ (has s w || (nat_eq w.txn.writer.0 writer && eq_by_cmp written_cmp w x))
  row_has s writer x =
      by (nat_eq x.txn.writer.0 writer)
      ∙ one_row (nat_eq x.txn.writer.0 writer) (eq_by_cmp written_cmp w x) (has s w) (nat_eq w.txn.writer.0 writer)
      (λ same. ap (λ (u : WrittenRow). nat_eq u.txn.writer.0 writer) (equal written_cmp-total written_cmp-exact w x same))
    where
      by : (own : Bool) → has (cond own (put s x) s) w ≡ cond own (eq_by_cmp written_cmp w x || has s w) (has s w)
      by true = puts s x
      by false = refl

map_has : (w : WrittenRow) (m : WrittenRows) (x : WrittenRow) → fin.contains_key (fin.insert m x tt) w ≡ (eq_by_cmp written_cmp w x || fin.contains_key m w)
map_has w m x = ap is_some (fin.get-insert written_cmp-total m x tt w) ∙ by (eq_by_cmp written_cmp w x)
  where
    by : (b : Bool) → is_some (cond b (Some tt) (fin.get m w)) ≡ (b || fin.contains_key m w)
    by true = refl
    by false = refl

records_has : (m : WrittenRows) (writer : ℕ) (w : WrittenRow) (rs : List Record)
    → fin.contains_key (with_rows m writer rs) w ≡ (fin.contains_key m w || (nat_eq w.txn.writer.0 writer && list_any (is_write w) rs))
records_has m writer w [] = or_false _ ∙ sym (ap (λ z. fin.contains_key m w || z) (and_false (nat_eq w.txn.writer.0 writer)))
records_has m writer w (RowSet page prev table r ∷ rs) =
    let x = row_named table r in
    records_has (with_row m writer x.row x.txn) writer w rs
    ∙ ap (λ z. z || (nat_eq w.txn.writer.0 writer && list_any (is_write w) rs)) (row_has fin.contains_key (λ s x. fin.insert s x tt) w (map_has w) m writer x)
    ∙ joins (fin.contains_key m w) (nat_eq w.txn.writer.0 writer) (eq_by_cmp written_cmp w x) (list_any (is_write w) rs)
records_has m writer w (Cut page prev at ∷ rs) = records_has m writer w rs
records_has m writer w (Format page prev body ∷ rs) = records_has m writer w rs
records_has m writer w (NodeAdd page prev key child ∷ rs) = records_has m writer w rs
records_has m writer w (End t committed ∷ rs) = records_has m writer w rs
records_has m writer w (Beat ∷ rs) = records_has m writer w rs

groups_has : (m : WrittenRows) (writer : ℕ) (w : WrittenRow) (gs : List Group)
    → fin.contains_key (written_by m writer gs) w ≡ (fin.contains_key m w || (nat_eq w.txn.writer.0 writer && writes gs w))
groups_has m writer w [] = or_false _ ∙ sym (ap (λ z. fin.contains_key m w || z) (and_false (nat_eq w.txn.writer.0 writer)))
groups_has m writer w (g ∷ gs) =
    groups_has (with_rows m writer g.records) writer w gs
    ∙ ap (λ z. z || (nat_eq w.txn.writer.0 writer && writes gs w)) (records_has m writer w g.records)
    ∙ joins (fin.contains_key m w) (nat_eq w.txn.writer.0 writer) (list_any (is_write w) g.records) (writes gs w)

-- what is wanted of a row that is to be undone
abbrev wanted : ℕ → List Group → WrittenRow → Bool
wanted writer gs w = nat_eq w.txn.writer.0 writer && writes gs w && not (have_end gs w.txn)

pub to_undo_is : (writer : ℕ) (gs : List Group) (w : WrittenRow) → is_among (to_undo writer gs) w ≡ wanted writer gs w
to_undo_is writer gs w =
    let all = written_by fin.empty writer gs in
    let lasts : WrittenRow → Bool = λ r. not (have_end gs r.txn) in
    sym (fin.contains_key-keys (fin.retain_keys all lasts) w) ∙ ap is_some (get-kept written_cmp-total written_cmp-exact all lasts w) ∙ by (lasts w) (fin.get all w)
    ∙ ap (λ z. z && lasts w) (groups_has fin.empty writer w gs ∙ ap (λ z. is_some z || (nat_eq w.txn.writer.0 writer && writes gs w)) (fin.get-empty written_cmp w))
  where
    by : (b : Bool) (o : Option (Unit {0})) → is_some (cond b o None) ≡ (is_some o && b)
    by true None = refl
    by true (Some u) = refl
    by false None = refl
    by false (Some u) = refl

pub ended_out : (own wrote ended : Bool) → ended ≡ true → (own && wrote && not ended) ≡ false
ended_out true true ended e = ap not e
ended_out true false ended e = refl
ended_out false wrote ended e = refl

pub open_in : (own wrote ended : Bool) → own ≡ true → wrote ≡ true → ended ≡ false → (own && wrote && not ended) ≡ true
open_in true true ended o w e = ap not e
open_in true false ended o w e = absurd (cc w)
open_in false wrote ended o w e = absurd (cc o)

-- ---- in order

less_is : (o : Ordering) → T (is_lt o) → o ≡ Less
less_is Less h = refl
less_is Equal h = absurd h
less_is Greater h = absurd h

module _ {K X : Type 0} (R : K → K → Ordering) where
  below_each : (k : K) (es : List (K × X)) → T (below_all R k es) → AllByRecursion (λ y. R k y ≡ Less) (keys_of es)
  below_each k [] h = tt
  below_each k (e ∷ es) h = (less_is (R k e.0) (first_of_both _ _ h), below_each k es (second_of_both _ _ h))

  keys_ascend : (es : List (K × X)) → T (is_sorted R es) → IsStrictlySortedBy R (keys_of es)
  unfolding IsStrictlySortedBy
  keys_ascend [] s = tt
  keys_ascend (e ∷ es) s = (below_each e.0 es (first_of_both _ _ s), keys_ascend es (second_of_both _ _ s))

pub to_undo_ascends : (writer : ℕ) (gs : List Group) → IsStrictlySortedBy written_cmp (to_undo writer gs)
to_undo_ascends writer gs = keys_ascend written_cmp _ (fin.entries_sorted (fin.retain_keys (written_by fin.empty writer gs) (λ r. not (have_end gs r.txn))))

pub pages_ascend : (gs : List Group) → IsStrictlySortedBy nat_cmp (fin.keys (with_groups fin.empty gs))
pages_ascend gs = keys_ascend nat_cmp _ (fin.entries_sorted (with_groups fin.empty gs))
