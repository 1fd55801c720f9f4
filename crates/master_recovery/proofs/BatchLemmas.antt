-- What was gathered of some groups is what the definitions read in them.
use Rattle.std.specs.Prelude.{◌≡◌, ℕ, ◌+◌, ◌≤◌, ◌<◌, ◌^◌, Bool, true, false, cond, ◌&&◌, List, [], ◌∷◌, ◌++◌, length, nat_eq, nat_le, Some}
use Rattle.std.proofs.Common.{refl, sym, ◌∙◌, ap, arith}
use Rattle.std.proofs.lemmas.Bool.Decides.{nat_tests}
use Rattle.std.specs.declared.cmp.Ordering.{Ordering}
use Rattle.std.specs.Ordering.{nat_cmp}
use Rattle.std.specs.FinMap.{FinMap, insert}
use Rattle.tm_data.specs.declared.log.Group.{Group}
use Rattle.tm_data.specs.declared.log.Record.{Record}
use Rattle.tm_data.specs.declared.log.Record.TheVariants.{RowSet, Cut, Format, NodeAdd, End, Beat}
use Rattle.page_model.specs.Effects.{page_of}
use Rattle.master_model.specs.Acks.{ends_in}
use Rattle.master_model.specs.Recovery.{WrittenRow, in_turn, is_next, page_stamp, with_groups, with_stamp, WrittenRows, with_row, written_by}
use Rattle.master_model.specs.Recovery as model
use Rattle.master_recovery.specs.declared.batch.Batch.{Batch}
use Rattle.master_recovery.specs.Places.{itself, nothing, page_key, stamp_value, with_items}
use Rattle.master_recovery.specs.Seen.{EndedTxns, Seen, ended_by, read, read_on, with_ends, with_read}
use Rattle.master_recovery.specs.Gathered.{gathered, row_named, with_page, with_record, with_records, with_row_if}

-- One item more is the last one.
items_push : {A K X : Type 0} {R : K → K → Ordering} (key : A → K) (value : A → X) (m : FinMap R X) (items : List A) (a : A)
    → with_items key value m (items ++ a ∷ []) ≡ insert (with_items key value m items) (key a) (value a)
items_push key value m [] a = refl
items_push key value m (x ∷ items) a = items_push key value (insert m (key x) (value x)) items a

-- ---- pages

abbrev put_pages : FinMap nat_cmp ℕ → Batch → FinMap nat_cmp ℕ
put_pages m b = with_items page_key stamp_value m b.pages

same_pages : (m : FinMap nat_cmp ℕ) (b : Batch) (w : WrittenRow) (own : Bool) → put_pages m (with_row_if b w own) ≡ put_pages m b
same_pages m b w true = refl
same_pages m b w false = refl

page_put : (m : FinMap nat_cmp ℕ) (b : Batch) (page stamp : ℕ) → put_pages m (with_page b page stamp) ≡ with_stamp (put_pages m b) stamp (Some page)
page_put m b page stamp = items_push page_key stamp_value m b.pages (page_stamp (page, stamp))

record_pages : (m : FinMap nat_cmp ℕ) (writer stamp : ℕ) (b : Batch) (r : Record) → put_pages m (with_record writer stamp b r) ≡ with_stamp (put_pages m b) stamp (page_of r)
record_pages m writer stamp b (RowSet page prev table r) =
    same_pages m (with_page b page.0 stamp) (row_named table r) (nat_eq r.txn.writer.0 writer) ∙ page_put m b page.0 stamp
record_pages m writer stamp b (Cut page prev at) = page_put m b page.0 stamp
record_pages m writer stamp b (Format page prev body) = page_put m b page.0 stamp
record_pages m writer stamp b (NodeAdd page prev key child) = page_put m b page.0 stamp
record_pages m writer stamp b (End t committed) = refl
record_pages m writer stamp b Beat = refl

records_pages : (m : FinMap nat_cmp ℕ) (writer stamp : ℕ) (b : Batch) (rs : List Record) → put_pages m (with_records writer stamp b rs) ≡ model.with_records (put_pages m b) stamp rs
records_pages m writer stamp b [] = refl
records_pages m writer stamp b (r ∷ rs) =
    records_pages m writer stamp (with_record writer stamp b r) rs ∙ ap (λ n. model.with_records n stamp rs) (record_pages m writer stamp b r)

pub groups_pages : (m : FinMap nat_cmp ℕ) (writer : ℕ) (b : Batch) (gs : List Group) → put_pages m (gathered writer b gs) ≡ with_groups (put_pages m b) gs
groups_pages m writer b [] = refl
groups_pages m writer b (g ∷ gs) =
    groups_pages m writer (with_records writer g.stamp.0 b g.records) gs ∙ ap (λ n. with_groups n gs) (records_pages m writer g.stamp.0 b g.records)

-- ---- rows

abbrev put_rows : WrittenRows → Batch → WrittenRows
put_rows m b = with_items itself nothing m b.rows

row_put : (m : WrittenRows) (b : Batch) (w : WrittenRow) (own : Bool) → put_rows m (with_row_if b w own) ≡ cond own (insert (put_rows m b) w tt) (put_rows m b)
row_put m b w true = items_push itself nothing m b.rows w
row_put m b w false = refl

records_rows : (m : WrittenRows) (writer stamp : ℕ) (b : Batch) (rs : List Record) → put_rows m (with_records writer stamp b rs) ≡ model.with_rows (put_rows m b) writer rs
records_rows m writer stamp b [] = refl
records_rows m writer stamp b (RowSet page prev table r ∷ rs) =
    records_rows m writer stamp (with_record writer stamp b (RowSet page prev table r)) rs
    ∙ ap (λ n. model.with_rows n writer rs) (row_put m (with_page b page.0 stamp) (row_named table r) (nat_eq r.txn.writer.0 writer))
records_rows m writer stamp b (Cut page prev at ∷ rs) = records_rows m writer stamp (with_record writer stamp b (Cut page prev at)) rs
records_rows m writer stamp b (Format page prev body ∷ rs) = records_rows m writer stamp (with_record writer stamp b (Format page prev body)) rs
records_rows m writer stamp b (NodeAdd page prev key child ∷ rs) = records_rows m writer stamp (with_record writer stamp b (NodeAdd page prev key child)) rs
records_rows m writer stamp b (End t committed ∷ rs) = records_rows m writer stamp (with_record writer stamp b (End t committed)) rs
records_rows m writer stamp b (Beat ∷ rs) = records_rows m writer stamp b rs

pub groups_rows : (m : WrittenRows) (writer : ℕ) (b : Batch) (gs : List Group) → put_rows m (gathered writer b gs) ≡ written_by (put_rows m b) writer gs
groups_rows m writer b [] = refl
groups_rows m writer b (g ∷ gs) =
    groups_rows m writer (with_records writer g.stamp.0 b g.records) gs ∙ ap (λ n. written_by n writer gs) (records_rows m writer g.stamp.0 b g.records)

-- ---- ends

abbrev put_ends : EndedTxns → Batch → EndedTxns
put_ends m b = with_items itself nothing m b.ended

same_ends : (m : EndedTxns) (b : Batch) (w : WrittenRow) (own : Bool) → put_ends m (with_row_if b w own) ≡ put_ends m b
same_ends m b w true = refl
same_ends m b w false = refl

records_ends : (m : EndedTxns) (writer stamp : ℕ) (b : Batch) (rs : List Record) → put_ends m (with_records writer stamp b rs) ≡ with_ends (put_ends m b) (ends_in rs)
records_ends m writer stamp b [] = refl
records_ends m writer stamp b (RowSet page prev table r ∷ rs) =
    records_ends m writer stamp (with_record writer stamp b (RowSet page prev table r)) rs
    ∙ ap (λ n. with_ends n (ends_in rs)) (same_ends m (with_page b page.0 stamp) (row_named table r) (nat_eq r.txn.writer.0 writer))
records_ends m writer stamp b (Cut page prev at ∷ rs) = records_ends m writer stamp (with_record writer stamp b (Cut page prev at)) rs
records_ends m writer stamp b (Format page prev body ∷ rs) = records_ends m writer stamp (with_record writer stamp b (Format page prev body)) rs
records_ends m writer stamp b (NodeAdd page prev key child ∷ rs) = records_ends m writer stamp (with_record writer stamp b (NodeAdd page prev key child)) rs
records_ends m writer stamp b (End t committed ∷ rs) =
    records_ends m writer stamp (with_record writer stamp b (End t committed)) rs ∙ ap (λ n. with_ends n (ends_in rs)) (items_push itself nothing m b.ended t)
records_ends m writer stamp b (Beat ∷ rs) = records_ends m writer stamp b rs

pub groups_ends : (m : EndedTxns) (writer : ℕ) (b : Batch) (gs : List Group) → put_ends m (gathered writer b gs) ≡ ended_by (put_ends m b) gs
groups_ends m writer b [] = refl
groups_ends m writer b (g ∷ gs) =
    groups_ends m writer (with_records writer g.stamp.0 b g.records) gs ∙ ap (λ n. ended_by n gs) (records_ends m writer g.stamp.0 b g.records)

-- ---- the walk over the groups

-- What is still to come after a group that is next, and after another one.
pub goes_on : (writer next most : ℕ) (b after_group target : Batch) (its : List Group) (g : Group) (gs : List Group)
    → its ≡ g ∷ gs → is_next writer next most g ≡ true → after_group ≡ with_records writer g.stamp.0 b g.records
    → gathered writer b (in_turn writer next most its) ≡ target → gathered writer after_group (in_turn writer (next + 1) most gs) ≡ target
goes_on writer next most b after_group target its g gs is test new same =
    ap (λ c. gathered writer c (in_turn writer (next + 1) most gs)) new
    ∙ sym (ap (λ own. gathered writer b (cond own (g ∷ in_turn writer (next + 1) most gs) (in_turn writer next most gs))) test)
    ∙ sym (ap (λ l. gathered writer b (in_turn writer next most l)) is) ∙ same

pub counts_on : (writer next most total : ℕ) (its : List Group) (g : Group) (gs : List Group)
    → its ≡ g ∷ gs → is_next writer next most g ≡ true → next + length (in_turn writer next most its) ≡ total → (next + 1) + length (in_turn writer (next + 1) most gs) ≡ total
counts_on writer next most total its g gs is test same =
    let e : next + length (g ∷ in_turn writer (next + 1) most gs) ≡ total =
    sym (ap (λ own. next + length (cond own (g ∷ in_turn writer (next + 1) most gs) (in_turn writer next most gs))) test)
    ∙ sym (ap (λ l. next + length (in_turn writer next most l)) is) ∙ same in
    omega (arith, e)

pub passes_by : (writer next most : ℕ) (its : List Group) (g : Group) (gs : List Group)
    → its ≡ g ∷ gs → is_next writer next most g ≡ false → in_turn writer next most gs ≡ in_turn writer next most its
passes_by writer next most its g gs is test =
    sym (ap (λ own. cond own (g ∷ in_turn writer (next + 1) most gs) (in_turn writer next most gs)) test) ∙ sym (ap (in_turn writer next most) is)

next_most_in : (own here within : Bool) (seq next most : ℕ) → nat_eq seq next ≡ here → nat_le seq most ≡ within → (own && here && within) ≡ true → most < 2 ^ 32 → next + 1 ≤ 2 ^ 32
next_most_in true true true seq next most is fits h few = grind (arith, nat_tests)
next_most_in true true false seq next most is fits h few = absurd (cc h)
next_most_in true false within seq next most is fits h few = absurd (cc h)
next_most_in false here within seq next most is fits h few = absurd (cc h)

-- The number after a group that is next has 32 bits, or is the first one that hasn't.
pub next_most : (writer next most : ℕ) (g : Group) → is_next writer next most g ≡ true → most < 2 ^ 32 → next + 1 ≤ 2 ^ 32
next_most writer next most g h few = next_most_in (nat_eq g.writer.0 writer) (nat_eq g.seq next) (nat_le g.seq most) g.seq next most refl refl h few

-- ---- what was read

pub reads_none : (v : Seen) (store most next : ℕ) (gs : List Group) → next + length gs ≡ next → read v store most next gs ≡ v
reads_none v store most next [] h = refl
reads_none v store most next (g ∷ gs) h = absurd (omega (arith, h))

pub reads_some : (v : Seen) (store most next : ℕ) (gs : List Group) → (next + length gs ≡ next → ⊥)
    → read v store most next gs ≡ read_on (with_read v gs) store most (next + length gs) (nat_le (next + length gs) most)
reads_some v store most next [] h = absurd (h (omega arith))
reads_some v store most next (g ∷ gs) h = refl
