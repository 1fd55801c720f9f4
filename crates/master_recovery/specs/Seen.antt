-- What is kept of a recovery, and how it goes on: in place of the groups that were read the pages that they changed,
-- the rows that they wrote and the transactions that they ended.
use Rattle.std.specs.Prelude.{◌≡◌, ℕ, ◌+◌, ◌-◌, Bool, true, false, not, nat_eq, nat_le, List, [], ◌∷◌, length, map, drop, refl}
use Rattle.std.specs.Ordering.{nat_cmp}
use Rattle.std.specs.FinMap.{FinMap}
use Rattle.std.specs.FinMap as fin
use Rattle.std.specs.Coded.{Coded, code_by, coded×, coded_ℕ, coded_list}
use base.Stored.{coded_unit}
use Rattle.std.specs.declared.option.Option.{Option}
use Rattle.std.specs.declared.option.Option.TheVariants.{None, Some}
use Rattle.tm_data.specs.declared.log.Group.{Group}
use Rattle.tm_data.specs.declared.transaction.Txn.{Txn}
use Rattle.tm_data.specs.Orders.{txn_cmp, coded_txn}
use Rattle.tm_base.specs.declared.message.PageStamp.{PageStamp}
use Rattle.master_model.specs.declared.recovery.Stage.{Stage}
use Rattle.master_model.specs.declared.recovery.Stage.TheVariants.{Seal, Close, Scan, Take, Undo, Told, Over}
use Rattle.master_model.specs.contracts.recovery.Stage as stage_type
use Rattle.master_model.specs.State.{Recovery}
use Rattle.master_model.specs.Acks.{ends_in}
use Rattle.master_model.specs.Recovery.{WrittenRow, in_turn, is_last, page_stamp, with_groups, written_cmp, WrittenRows, rows_left, written_by}
use Rattle.master_recovery.specs.Rows.{coded_written}
use Rattle.master_recovery.specs.Places.{valued}

-- Transactions that have ended: a map from each to nothing.
abbrev pub EndedTxns : Type 0
EndedTxns = FinMap txn_cmp (Unit {0})

-- The writer, how far it has come, the pages with the stamps of their last changes, the rows that the writer's
-- transactions wrote, and the transactions that ended. Once the pages are taken over, the rows that are left to undo
-- are in their order in place of those that were written.
pub record Seen : Type 0 where
  pub writer : ℕ
  pub stage : Stage
  pub pages : FinMap nat_cmp ℕ
  pub written : WrittenRows
  pub ended : EndedTxns
  pub undo : List WrittenRow

-- ---- the pages and the ends that were read

-- The pages with their stamps, ascending.
abbrev pub listed : FinMap nat_cmp ℕ → List PageStamp
listed pages = map page_stamp (fin.entries pages)

abbrev pub with_ends : EndedTxns → List (Txn × Bool) → EndedTxns
with_ends txns [] = txns
with_ends txns (e ∷ es) = with_ends (fin.insert txns e.0 tt) es

abbrev pub ended_by : EndedTxns → List Group → EndedTxns
ended_by txns [] = txns
ended_by txns (g ∷ gs) = ended_by (with_ends txns (ends_in g.records)) gs

-- ---- how it goes on

abbrev pub at : Seen → Stage → Seen
at v stage = record v { stage = stage }

-- The first log store that has sealed the log.
abbrev pub sealed_in : Seen → ℕ → ℕ → Stage → Seen
sealed_in v store most Seal = at v (Close store most)
sealed_in v store most other = v

abbrev pub sealed : Seen → ℕ → ℕ → Seen
sealed v store most = sealed_in v store most v.stage

-- The pages are taken over, from the first part on.
abbrev pub to_take : Seen → Seen
to_take v = at v (Take 1 (is_last (listed v.pages) 1))

-- The log is closed: it is read, if it has any groups.
abbrev pub closed_if : Seen → ℕ → ℕ → Bool → Seen
closed_if v store most true = to_take v
closed_if v store most false = at v (Scan store most 1)

abbrev pub closed_in : Seen → ℕ → ℕ → Stage → Seen
closed_in v store most (Close asked_store asked_length) = closed_if v store most (nat_eq most 0)
closed_in v store most other = v

abbrev pub closed : Seen → ℕ → ℕ → Seen
closed v store most = closed_in v store most v.stage

-- Of the groups those are read that come next, and of these the next one is awaited, or it was the last.
abbrev pub with_read : Seen → List Group → Seen
with_read v groups = record v { pages = with_groups v.pages groups; written = written_by v.written v.writer groups; ended = ended_by v.ended groups }

abbrev pub read_on : Seen → ℕ → ℕ → ℕ → Bool → Seen
read_on v store most next true = at v (Scan store most next)
read_on v store most next false = to_take v

abbrev pub read : Seen → ℕ → ℕ → ℕ → List Group → Seen
read v store most next [] = v
read v store most next (g ∷ gs) =
    let after = next + length (g ∷ gs) in
    read_on (with_read v (g ∷ gs)) store most after (nat_le after most)

abbrev pub groups_in : Seen → List Group → Stage → Seen
groups_in v groups (Scan store most next) = read v store most next (in_turn v.writer next most groups)
groups_in v groups other = v

abbrev pub scanned : Seen → List Group → Seen
scanned v groups = groups_in v groups v.stage

-- The rows of transactions that have no end.
abbrev pub open_rows : Seen → List WrittenRow
open_rows v = fin.keys (fin.retain_keys v.written (λ r. not (fin.contains_key v.ended r.txn)))

-- A part is taken over: the next one is, or, after the last one, the rows are undone.
abbrev pub taken_on : Seen → ℕ → Bool → Seen
taken_on v part true = record v { stage = Undo (length (open_rows v)); written = fin.empty; undo = open_rows v }
taken_on v part false = at v (Take (part + 1) (is_last (listed v.pages) (part + 1)))

abbrev pub taken_if : Seen → ℕ → Bool → Bool → Seen
taken_if v part rest true = taken_on v part rest
taken_if v part rest false = v

abbrev pub taken_in : Seen → ℕ → Stage → Seen
taken_in v part (Take awaited rest) = taken_if v awaited rest (nat_eq part awaited)
taken_in v part other = v

abbrev pub taken : Seen → ℕ → Seen
taken v part = taken_in v part v.stage

-- A row is undone, the first of those that are left.
abbrev pub undone : Seen → ℕ → Seen
undone v left = record v { stage = Undo (left - 1); undo = drop 1 v.undo }

abbrev pub told : Seen → Seen
told v = record v { stage = Told; undo = [] }

-- The writer is recovered.
abbrev pub over : Seen → Seen
over v = record v { stage = Over; written = fin.empty; undo = [] }

-- ---- what is seen of a recovery of the definitions

-- The written rows are kept until the pages are taken over.
abbrev pub written_at : Stage → WrittenRows → WrittenRows
written_at (Undo left) rows = fin.empty
written_at Told rows = fin.empty
written_at Over rows = fin.empty
written_at other rows = rows

-- And those that are left to undo from then on.
abbrev pub undo_at : Stage → List WrittenRow → List WrittenRow
undo_at (Undo left) rows = rows
undo_at other rows = []

abbrev pub left_at : Recovery → Stage → List WrittenRow
left_at r (Undo left) = rows_left r left
left_at r other = []

abbrev pub seen : Recovery → Seen
seen r = record {
  writer = r.writer;
  stage = r.stage;
  pages = with_groups fin.empty r.scanned;
  written = written_at r.stage (written_by fin.empty r.writer r.scanned);
  ended = ended_by fin.empty r.scanned;
  undo = left_at r r.stage;
}

-- A recovery of the definitions is seen, or none is under way any more.
abbrev pub Shows : Seen → Option Recovery → Type 0
Shows v None = v.stage ≡ Over
Shows v (Some r) = v ≡ seen r

-- ---- what is seen of the code's recovery

abbrev pub shown : ℕ → Stage → FinMap nat_cmp (Option ℕ) → FinMap written_cmp (Option (Unit {0})) → FinMap txn_cmp (Option (Unit {0})) → Seen
shown writer stage pages rows ended = record {
  writer = writer;
  stage = stage;
  pages = valued pages;
  written = written_at stage (valued rows);
  ended = valued ended;
  undo = undo_at stage (fin.keys rows);
}

-- ---- what holds in every state

abbrev pub StageFits : Seen → Stage → Type 0
StageFits v (Take part rest) = rest ≡ is_last (listed v.pages) part
StageFits v (Undo left) = left ≡ length v.undo
StageFits v other = Unit {0}

-- A part that is awaited is said to be the last one exactly where it is, and as many rows are left as are counted.
abbrev pub IsSound : Seen → Type 0
IsSound v = StageFits v v.stage

abbrev pub coded_seen : Coded Seen
coded_seen =
    code_by (ℕ × (Stage × (FinMap nat_cmp ℕ × (WrittenRows × (EndedTxns × List WrittenRow)))))
    (coded× coded_ℕ (coded× stage_type.the_row.coded (coded× (fin.code coded_ℕ coded_ℕ) (coded× (fin.code coded_written coded_unit) (coded× (fin.code coded_txn coded_unit) (coded_list coded_written))))))
    (λ v. (v.writer, (v.stage, (v.pages, (v.written, (v.ended, v.undo))))))
    (λ p. record { writer = p.0; stage = p.1.0; pages = p.1.1.0; written = p.1.1.1.0; ended = p.1.1.1.1.0; undo = p.1.1.1.1.1 })
    (λ _. refl)
