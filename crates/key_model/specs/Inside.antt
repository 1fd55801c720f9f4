-- What only this crate's own functions speak of.
use Rattle.std.specs.Prelude.{◌≡◌, ℕ, List, [], ◌∷◌, ◌++◌, Bool, true, false, cond, ◌&&◌, is_some, is_none, Some, None, IsSome}
use Rattle.std.specs.Map.{keys_of}
use Rattle.std.specs.BTreeMap.{is_at}
use Rattle.std.specs.FinMap as fin
use Rattle.std.specs.FinMap.{IsAntisymmetric}
use Rattle.std.specs.Cmp.{IsTotalOrder}
use Rattle.std.proofs.Common.{ap}
use Rattle.std.proofs.lemmas.Cmp.{then_total, on_total}
use Rattle.std.proofs.lemmas.Map.Lookups.{exact_pairs}
use Rattle.std.specs.FinSet as sets
use Rattle.std.specs.List.{list_any}
use Rattle.std.specs.declared.option.Option.{Option}
use Rattle.std.specs.Ordering.{ordering_then}
use Rattle.std.specs.declared.cmp.Ordering.{Ordering}
use Rattle.tm_data.specs.declared.transaction.Txn.{Txn}
use Rattle.tm_data.specs.declared.transaction.Writer.{Writer}
use Rattle.tm_data.specs.declared.row_map.RowKey.{RowKey}
use Rattle.tm_data.specs.Orders.{row_cmp, writer_cmp, txn_cmp, txn_cmp-exact, txn_cmp-total}
use Rattle.key_model.specs.declared.values.Entry.{Entry}
use Rattle.key_model.specs.declared.events.Ended.{Ended}
use Rattle.key_model.specs.declared.events.PutKey.{PutKey}
use Rattle.key_model.specs.declared.closing.Ending.{Ending}
use Rattle.key_model.specs.declared.sessions.Held.{Held}
use Rattle.key_model.specs.declared.sessions.Session.{Session}
use Rattle.key_model.specs.State.{Open, DyingRow, dying_cmp, session_cmp, session_cmp-exact, session_cmp-total}
use Rattle.key_model.specs.After.{same_txn, same_writer, same_row, locked_row}

-- ---- sessions by transaction

-- whether a session has the transaction
abbrev pub has_txn : Option Txn → Txn → Bool
has_txn None t = false
has_txn (Some own) t = same_txn own t

-- by transaction, and then by session
abbrev pub held_cmp : Held → Held → Ordering
held_cmp a b = ordering_then (txn_cmp a.txn b.txn) (session_cmp a.session b.session)

pub held_cmp-exact : IsAntisymmetric held_cmp
held_cmp-exact a b h = ap (λ (p : Txn × Session). record { txn = p.0; session = p.1 }) (exact_pairs txn_cmp session_cmp txn_cmp-exact session_cmp-exact (a.txn, a.session) (b.txn, b.session) h)

pub held_cmp-total : IsTotalOrder held_cmp
held_cmp-total = then_total (on_total (λ h. h.txn) txn_cmp-total) (on_total (λ h. h.session) session_cmp-total)

abbrev pub first_held : Txn → Held
first_held t = record { txn = t; session = record { writer = record { 0 = 0 }; number = 0 } }

-- each session that has a transaction is one that may have it
abbrev pub CoversTxns : fin.FinMap session_cmp Txn → sets.FinSet held_cmp → Type 0
CoversTxns txns held = (s : Session) (t : Txn) → fin.get txns s ≡ Some t → sets.contains held (record { txn = t; session = s }) ≡ true

-- ---- places

-- the entries that have a value
abbrev pub keep : {K X : Type 0} → K → Option X → List (K × X) → List (K × X)
keep k None es = es
keep k (Some v) es = (k, v) ∷ es

abbrev pub kept : {K X : Type 0} → List (K × Option X) → List (K × X)
kept [] = []
kept (e ∷ es) = keep e.0 e.1 (kept es)

-- the map of the places that aren't empty
abbrev pub valued : {K X : Type 0} {R : K → K → Ordering} → fin.FinMap R (Option X) → fin.FinMap R X
valued m = fin.from_entries (kept (fin.entries m))

-- the keys of the places that aren't empty
abbrev pub there : {K X : Type 0} {R : K → K → Ordering} → fin.FinMap R (Option X) → sets.FinSet R
there m = sets.from_list (keys_of (kept (fin.entries m)))

-- each of the keys has a place
abbrev pub HasAll : {K X : Type 0} {R : K → K → Ordering} → fin.FinMap R (Option X) → List K → Type 0
HasAll m [] = Unit {0}
HasAll m (k ∷ ks) = IsSome (fin.get m k) × HasAll m ks

-- the map with these entries
abbrev pub over : {K X : Type 0} {R : K → K → Ordering} → fin.FinMap R X → List (K × X) → fin.FinMap R X
over m [] = m
over m (e ∷ es) = over (fin.insert m e.0 e.1) es

-- the set with these rows
abbrev pub with_rows : sets.FinSet dying_cmp → List DyingRow → sets.FinSet dying_cmp
with_rows s [] = s
with_rows s (d ∷ ds) = with_rows (sets.insert s d) ds

-- ---- rows by the writers of their transactions

abbrev pub Owned : Type 0
Owned = fin.FinMap writer_cmp (List DyingRow)

-- one row more, the last of its writer's
abbrev pub with_owned : Owned → DyingRow → Option (List DyingRow) → Owned
with_owned m d None = fin.insert m d.txn.writer (d ∷ [])
with_owned m d (Some ds) = fin.insert m d.txn.writer (ds ++ d ∷ [])

-- whether a row is one of its writer's
abbrev pub is_owned : Option (List DyingRow) → DyingRow → Bool
is_owned None d = false
is_owned (Some ds) d = list_any (is_at (dying_cmp d)) ds

-- each row that has a place is one of its writer's
abbrev pub CoversPlaces : fin.FinMap dying_cmp (Option (Unit {0})) → Owned → Type 0
CoversPlaces places owned = (d : DyingRow) → is_some (fin.get places d) ≡ true → is_owned (fin.get owned d.txn.writer) d ≡ true

-- the places without those of these rows, as far as they are the writer's
abbrev pub without_own : Writer → fin.FinMap dying_cmp (Option (Unit {0})) → List DyingRow → fin.FinMap dying_cmp (Option (Unit {0}))
without_own w m [] = m
without_own w m (d ∷ ds) = without_own w (cond (same_writer d.txn.writer w) (fin.remove m d) m) ds

-- ---- values that enter

-- each value that is to enter has a place
abbrev pub HasPlace : fin.FinMap row_cmp (Option (List ℕ)) → RowKey → Option (List ℕ) → Type 0
HasPlace m key None = Unit {0}
HasPlace m key (Some value) = IsSome (fin.get m key)

abbrev pub HasPlaces : fin.FinMap row_cmp (Option (List ℕ)) → List (RowKey × Option (List ℕ)) → Type 0
HasPlaces m [] = Unit {0}
HasPlaces m (e ∷ es) = HasPlace m e.0 e.1 × HasPlaces m es

-- the entries of a map, as they are listed
abbrev pub entries_of : List (RowKey × List ℕ) → List Entry
entries_of [] = []
entries_of (e ∷ es) = record { table = e.0.table; key = e.0.key; value = e.1 } ∷ entries_of es

-- below each transaction
abbrev pub no_txn : Txn
no_txn = record { writer = record { 0 = 0 }; number = 0 }

-- ---- what a close changes

-- no transaction ends
abbrev pub no_ending : Ending
no_ending = record { outcomes = fin.empty; writes = fin.empty }

-- whether a place that isn't empty is one of this row
abbrev pub locks_in : List (DyingRow × Option (Unit {0})) → RowKey → Bool
locks_in places key = list_any (λ e. is_some e.1 && same_row e.0.row key) places

-- what is written, with the values of one more transaction if it commits
abbrev pub writes_with : Bool → fin.FinMap row_cmp (Option (List ℕ)) → fin.FinMap row_cmp (Option (List ℕ)) → fin.FinMap row_cmp (Option (List ℕ))
writes_with true writes more = over writes (fin.entries more)
writes_with false writes more = writes

-- one more transaction ends
abbrev pub with_ending : Ending → Ended → Open → Ending
with_ending g e touched = record { outcomes = fin.insert g.outcomes e.txn e.committed; writes = writes_with e.committed g.writes touched.writes }

-- an end in the log ends its transaction if that is open and has no end before
abbrev pub ending_if : Ending → Ended → Option Open → Option Bool → Ending
ending_if g e None outcome = g
ending_if g e (Some touched) (Some committed) = g
ending_if g e (Some touched) None = with_ending g e touched

abbrev pub all_ending : fin.FinMap txn_cmp Open → Ending → List Ended → Ending
all_ending opened g [] = g
all_ending opened g (e ∷ es) = all_ending opened (ending_if g e (fin.get opened e.txn) (fin.get g.outcomes e.txn)) es

-- the transaction is the writer's, open, and has no end in the log
abbrev pub is_left : fin.FinMap txn_cmp Open → fin.FinMap txn_cmp Bool → Writer → Txn → Bool
is_left opened outcomes writer t = same_writer t.writer writer && (is_some (fin.get opened t) && is_none (fin.get outcomes t))

-- the rows of those among the puts
abbrev pub rows_left : fin.FinMap txn_cmp Open → fin.FinMap txn_cmp Bool → Writer → List PutKey → List DyingRow
rows_left opened outcomes writer [] = []
rows_left opened outcomes writer (p ∷ ps) =
    cond (is_left opened outcomes writer p.txn) (locked_row p ∷ rows_left opened outcomes writer ps) (rows_left opened outcomes writer ps)
