-- What open transactions have read and written, and which of them an index may name.
use Rattle.std.specs.Prelude.{◌≡◌, ℕ, List, Bool, true, false, ◌&&◌, not, is_some, nat_eq, Some, None, refl}
use Rattle.std.specs.Coded.{Coded, code_by, coded×, coded_ℕ, coded_list, coded_option}
use Rattle.std.specs.BTreeMap.{is_at}
use Rattle.std.specs.FinMap as fin
use Rattle.std.specs.FinSet as sets
use Rattle.std.specs.List.{list_any}
use Rattle.std.specs.declared.option.Option.{Option}
use Rattle.tm_data.specs.declared.transaction.Txn.{Txn}
use Rattle.tm_data.specs.declared.transaction.Writer.{Writer}
use Rattle.tm_data.specs.declared.row_map.RowKey.{RowKey}
use Rattle.tm_data.specs.Orders.{row_cmp, coded_row, txn_cmp}
use Rattle.key_index.specs.declared.opened.Open.{Open}

-- Nothing is read or written.
abbrev pub untouched : Open
untouched = record { reads = fin.empty; writes = fin.empty }

abbrev pub coded_open : Coded Open
coded_open = code_by (fin.FinMap row_cmp (Unit {0}) × fin.FinMap row_cmp (Option (List ℕ))) (coded× (sets.code coded_row) (fin.code coded_row (coded_option (coded_list coded_ℕ))))
    (λ o. (o.reads, o.writes)) (λ p. record { reads = p.0; writes = p.1 }) (λ _. refl)

abbrev pub same_writer : Writer → Writer → Bool
same_writer a b = nat_eq a.0 b.0

abbrev pub same_txn : Txn → Txn → Bool
same_txn a b = nat_eq a.writer.0 b.writer.0 && nat_eq a.number b.number

-- Whether a transaction has written the key, or has read it.
abbrev pub wrote : Open → RowKey → Bool
wrote touched key = is_some (fin.get touched.writes key)

abbrev pub read : Open → RowKey → Bool
read touched key = fin.contains_key touched.reads key

-- Whether one of the open transactions, other than T, has written the key, or has read it.
abbrev pub wrote_by_other : List (Txn × Open) → Txn → RowKey → Bool
wrote_by_other opened t key = list_any (λ e. not (same_txn e.0 t) && wrote e.1 key) opened

abbrev pub read_by_other : List (Txn × Open) → Txn → RowKey → Bool
read_by_other opened t key = list_any (λ e. not (same_txn e.0 t) && read e.1 key) opened

-- the open transactions, where T has read one more key, or written one, if it is open
abbrev pub reads_in : fin.FinMap txn_cmp Open → Txn → RowKey → Option Open → fin.FinMap txn_cmp Open
reads_in opened t key None = opened
reads_in opened t key (Some touched) = fin.insert opened t (record touched { reads = fin.insert touched.reads key tt })

abbrev pub writes_in : fin.FinMap txn_cmp Open → Txn → RowKey → Option (List ℕ) → Option Open → fin.FinMap txn_cmp Open
writes_in opened t key value None = opened
writes_in opened t key value (Some touched) = fin.insert opened t (record touched { writes = fin.insert touched.writes key value })

-- whether a transaction is one of a row's holders
abbrev pub is_among : Option (List Txn) → Txn → Bool
is_among None t = false
is_among (Some ts) t = list_any (is_at (txn_cmp t)) ts

-- whether a transaction is open and has the key among those that it has written, or read
abbrev pub has_at : (Open → RowKey → Bool) → Option Open → RowKey → Bool
has_at has None key = false
has_at has (Some touched) key = has touched key

-- each open transaction is a holder of what it has written, or read
abbrev pub Covers : (Open → RowKey → Bool) → fin.FinMap txn_cmp Open → fin.FinMap row_cmp (List Txn) → Type 0
Covers has opened index = (t : Txn) (key : RowKey) → has_at has (fin.get opened t) key ≡ true → is_among (fin.get index key) t ≡ true

-- the holders other than T still hold what they held
abbrev pub StillAmong : fin.FinMap row_cmp (List Txn) → fin.FinMap row_cmp (List Txn) → Txn → Type 0
StillAmong old new t = (u : Txn) (key : RowKey) → is_at (txn_cmp t) u ≡ false → is_among (fin.get old key) u ≡ true → is_among (fin.get new key) u ≡ true

-- no transaction of the writer is open
abbrev pub HasNoneOf : fin.FinMap txn_cmp Open → Writer → Type 0
HasNoneOf opened writer = (t : Txn) → same_writer t.writer writer ≡ true → is_some (fin.get opened t) ≡ false
