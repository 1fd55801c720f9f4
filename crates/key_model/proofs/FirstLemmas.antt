-- The places of one row follow each other, from the row's first place on.
use Rattle.std.specs.Prelude.{◌≡◌, ℕ, List, [], ◌∷◌, Bool, true, false, cond, ◌&&◌, ◌||◌, is_some}
use Rattle.std.proofs.Common.{refl, sym, ◌∙◌, ap, arith}
use Rattle.std.specs.declared.cmp.Ordering.{Ordering}
use Rattle.std.specs.declared.cmp.Ordering.TheVariants.{Less, Equal, Greater}
use Rattle.std.specs.declared.option.Option.{Option}
use Rattle.std.specs.declared.ops.Bound.TheVariants.{Included, Unbounded}
use Rattle.std.specs.Ordering.{is_le, ordering_then, ordering_reverse, nat_cmp}
use Rattle.std.specs.Cmp.{tied_itself}
use Rattle.std.specs.List.{AllByRecursion}
use Rattle.std.specs.List.Sorted.{IsStrictlySortedBy}
use Rattle.std.specs.BTreeMap.Range.{entries_between}
use Rattle.std.specs.Map.{keys_of}
use Rattle.std.proofs.lemmas.Bool.Decides.{nat_tests}
use Rattle.tm_data.specs.declared.row_map.RowKey.{RowKey}
use Rattle.tm_data.specs.declared.transaction.Txn.{Txn}
use Rattle.tm_data.specs.Orders.{row_cmp, row_cmp-exact, row_cmp-total, txn_cmp}
use Rattle.key_model.specs.State.{DyingRow, dying_cmp}
use Rattle.key_model.specs.After.{same_row}
use Rattle.key_model.specs.Inside.{locks_in, no_txn}
use Rattle.key_index.proofs.AnyLemmas.{true_or_false, not_both}
use Rattle.key_model.proofs.LawLemmas.{row_is, row_same}

abbrev Place : Type 0
Place = DyingRow × Option (Unit {0})

-- a walk over places that ends at the first one of another row
abbrev pub walked : List Place → RowKey → Bool
walked [] row = false
walked (e ∷ es) row = cond (same_row e.0.row row) (is_some e.1 || walked es row) false

-- ---- the order

least : (t : Txn) → is_le (txn_cmp no_txn t) ≡ true
least t = by (nat_cmp 0 t.writer.0) refl (nat_cmp 0 t.number) refl
  where
    low : (n : ℕ) → nat_cmp 0 n ≡ Greater → ⊥
    low n h = grind (arith, nat_tests)

    by : (r : Ordering) → nat_cmp 0 t.writer.0 ≡ r → (s : Ordering) → nat_cmp 0 t.number ≡ s → is_le (ordering_then r s) ≡ true
    by Less is s at = refl
    by Equal is Less at = refl
    by Equal is Equal at = refl
    by Equal is Greater at = absurd (low t.number at)
    by Greater is s at = absurd (low t.writer.0 is)

-- each place of the row is at its first one or after it
pub from_first : (first d : DyingRow) → first.txn ≡ no_txn → same_row d.row first.row ≡ true → is_le (dying_cmp first d) ≡ true
from_first first d low same =
    let row : row_cmp first.row d.row ≡ Equal = ap (row_cmp first.row) (row_is d.row first.row same) ∙ tied_itself row_cmp-total first.row in
    ap (λ r. is_le (ordering_then r (txn_cmp first.txn d.txn))) row ∙ ap (λ t. is_le (txn_cmp t d.txn)) low ∙ least d.txn

greater_not_less : Greater ≡ Less → ⊥
greater_not_less h = not_both true refl (sym (ap is_le h))

-- behind a place of another row, from the first one on, there is no place of the row
pub none_behind : (first d next : DyingRow) → is_le (dying_cmp first d) ≡ true → same_row d.row first.row ≡ false → dying_cmp d next ≡ Less → same_row next.row first.row ≡ false
none_behind first d next from other less = true_or_false _ (λ same. by (row_cmp first.row d.row) refl (row_is next.row first.row same))
  where
    by : (r : Ordering) → row_cmp first.row d.row ≡ r → next.row ≡ first.row → ⊥
    by Less is row =
        let back : row_cmp d.row first.row ≡ Greater = row_cmp-total.antisymm d.row first.row ∙ ap ordering_reverse is in
        greater_not_less (sym (ap (λ r. ordering_then r (txn_cmp d.txn next.txn)) (ap (row_cmp d.row) row ∙ back)) ∙ less)
    by Equal is row = not_both _ (ap (λ r. same_row d.row r) (row_cmp-exact first.row d.row is) ∙ row_same d.row) other
    by Greater is row = not_both _ from (ap (λ r. is_le (ordering_then r (txn_cmp first.txn d.txn))) is)

-- ---- the walk

none_locked : (first d : DyingRow) (es : List Place) → is_le (dying_cmp first d) ≡ true → same_row d.row first.row ≡ false → AllByRecursion (λ y. dying_cmp d y ≡ Less) (keys_of es)
    → locks_in es first.row ≡ false
none_locked first d [] from other above = refl
none_locked first d (e ∷ es) from other above =
    ap (λ b. (is_some e.1 && b) || locks_in es first.row) (none_behind first d e.0 from other above.0) ∙ by (is_some e.1) ∙ none_locked first d es from other above.1
  where
    by : (b : Bool) → ((b && false) || locks_in es first.row) ≡ locks_in es first.row
    by true = refl
    by false = refl

pub walk_locks : (first : DyingRow) → first.txn ≡ no_txn → (es : List Place) → IsStrictlySortedBy dying_cmp (keys_of es)
    → walked (entries_between dying_cmp (Included first) Unbounded es) first.row ≡ locks_in es first.row
unfolding IsStrictlySortedBy
walk_locks first low [] sorted = refl
walk_locks first low (e ∷ es) sorted = by (is_le (dying_cmp first e.0)) refl (same_row e.0.row first.row) refl (walk_locks first low es sorted.1)
  where
    rest : List Place
    rest = entries_between dying_cmp (Included first) Unbounded es

    fails : (b : Bool) → ((b && false) || locks_in es first.row) ≡ locks_in es first.row
    fails true = refl
    fails false = refl

    passes : (b : Bool) → (b && true) ≡ b
    passes true = refl
    passes false = refl

    by : (a : Bool) → is_le (dying_cmp first e.0) ≡ a → (b : Bool) → same_row e.0.row first.row ≡ b → walked rest first.row ≡ locks_in es first.row
        → walked (cond (a && true) (e ∷ rest) rest) first.row ≡ ((is_some e.1 && b) || locks_in es first.row)
    by true from true same later =
        ap (λ b. cond b (is_some e.1 || walked rest first.row) false) same ∙ ap (λ b. is_some e.1 || b) later ∙ ap (λ b. b || locks_in es first.row) (sym (passes (is_some e.1)))
    by true from false other later =
        ap (λ b. cond b (is_some e.1 || walked rest first.row) false) other ∙ sym (none_locked first e.0 es from other sorted.0) ∙ sym (fails (is_some e.1))
    by false from true same later = absurd (not_both _ (from_first first e.0 low same) from)
    by false from false other later = later ∙ sym (fails (is_some e.1))
