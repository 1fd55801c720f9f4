-- What only this crate's own functions speak of.
use Rattle.std.specs.Prelude.{◌≡◌, ℕ, Bool, true, false, cond, is_some, List, [], ◌∷◌, map, ◌+◌, ◌&&◌, ◌||◌, nat_eq, length, filter}
use Rattle.std.specs.FinMap as fin
use Rattle.std.specs.declared.option.Option.{Option}
use Rattle.std.specs.declared.option.Option.TheVariants.{None, Some}
use Rattle.tm_data.specs.declared.transaction.Txn.{Txn}
use Rattle.tm_data.specs.declared.row_map.RowKey.{RowKey}
use Rattle.tm_data.specs.declared.row.Row.{Row}
use Rattle.tm_data.specs.Orders.{row_cmp, txn_cmp, writer_cmp}
use Rattle.key_model.specs.declared.events.Event.{Event}
use Rattle.key_model.specs.declared.events.EventKind.{EventKind}
use Rattle.key_model.specs.declared.events.EventKind.TheVariants.{Read, Put, End}
use Rattle.key_model.specs.declared.events.TableRow.{TableRow}
use Rattle.key_model.specs.declared.values.Entry.{Entry}
use Rattle.key_model.specs.Steps.{row_of}
use Rattle.key_model.specs.After.{same_txn}
use Rattle.key_model.specs.Events.{has_end, logs, key_of, meet, is_put, is_of, is_by, is_logged}
use Rattle.key_model.specs.Cuts.{Written, wrote, value_after, value_before, before_of, row_by}
use Rattle.event_cuts.specs.declared.last_puts.LastPut.{LastPut}
use Rattle.std.specs.List.{list_any}
use Rattle.tm_data.specs.declared.transaction.Writer.{Writer}
use Rattle.key_model.specs.declared.events.Count.{Count}
use Rattle.event_cuts.specs.declared.reached.Reached.{Reached}

-- ---- the last put on a key, found with those before it from the last on

abbrev pub last_put : List ℕ → Txn → Option (List ℕ) → LastPut
last_put key t value = record { key = key; txn = t; value = value; before = None; own = true }

-- one put more is found, earlier than those before
abbrev pub with_earlier : LastPut → Txn → Option (List ℕ) → LastPut
with_earlier p t value = record { key = p.key; txn = p.txn; value = p.value; before = cond p.own value p.before; own = same_txn p.txn t }

abbrev pub or_last : List ℕ → Txn → Option (List ℕ) → Option LastPut → LastPut
or_last key t value None = last_put key t value
or_last key t value (Some p) = with_earlier p t value

abbrev pub LastPuts : Type 0
LastPuts = fin.FinMap row_cmp LastPut

abbrev pub with_put : LastPuts → RowKey → List ℕ → Txn → Option (List ℕ) → LastPuts
with_put m place key t value = fin.insert (fin.remove m place) place (or_last key t value (fin.get m place))

abbrev pub with_kind : LastPuts → EventKind → LastPuts
with_kind m (Read t table key) = m
with_kind m (Put t table key value) = with_put m (row_of table key) key t value
with_kind m (End t committed) = m

abbrev pub with_event : Bool → LastPuts → EventKind → LastPuts
with_event true m kind = with_kind m kind
with_event false m kind = m

-- the value before the transaction, where no put is left to find
abbrev pub before_in : LastPut → Option (List ℕ)
before_in p = cond p.own None p.before

abbrev pub row_from : LastPut → Row
row_from p = record { key = p.key; txn = p.txn; now = p.value; before = before_of p.value (before_in p) }

-- the value before the transaction, where these puts are left to find
abbrev pub before_from : LastPut → List Written → Option (List ℕ)
before_from p ws = cond (wrote p.txn ws) (value_before p.txn ws) (cond p.own (value_after ws) p.before)

abbrev pub row_left : RowKey → Option LastPut → List Written → Option Row
row_left key None ws = row_by key ws
row_left key (Some p) ws = Some (record { key = p.key; txn = p.txn; now = p.value; before = before_of p.value (before_from p ws) })

-- what is found of a key, with what is left to find, is the row
abbrev pub Finds : LastPuts → (RowKey → List Written) → (RowKey → Option Row) → Type 0
Finds m left rows = (key : RowKey) → row_left key (fin.get m key) (left key) ≡ rows key

-- ---- ends

abbrev pub EndMap : Type 0
EndMap = fin.FinMap txn_cmp (Unit {0})

abbrev pub with_end_kind : EndMap → EventKind → EndMap
with_end_kind m (Read t table key) = m
with_end_kind m (Put t table key value) = m
with_end_kind m (End t committed) = fin.insert m t tt

abbrev pub with_end : Bool → EndMap → EventKind → EndMap
with_end true m kind = with_end_kind m kind
with_end false m kind = m

-- these are the transactions that have their end among the events
abbrev pub HasEnds : EndMap → List Event → Type 0
HasEnds ended past = (t : Txn) → is_some (fin.get ended t) ≡ has_end t past

-- the value of a key in the map
abbrev pub mapped : EndMap → LastPut → Option (List ℕ)
mapped ended p = cond (is_some (fin.get ended p.txn)) p.value (before_in p)

-- ---- the lists

abbrev pub rows_of : List (RowKey × LastPut) → List TableRow
rows_of es = map (λ e. record { table = e.0.table; row = row_from e.1 }) es

abbrev pub with_entry : RowKey → Option (List ℕ) → List Entry → List Entry
with_entry key None entries = entries
with_entry key (Some value) entries = record { table = key.table; key = key.key; value = value } ∷ entries

abbrev pub entries_of : EndMap → List (RowKey × LastPut) → List Entry
entries_of ended [] = []
entries_of ended (e ∷ es) = with_entry e.0 (mapped ended e.1) (entries_of ended es)

-- ---- the events that reach one, found from the last on

abbrev pub Numbers : Type 0
Numbers = fin.FinMap writer_cmp ℕ

-- of each key whether one of the events on it is a put
abbrev pub Keys : Type 0
Keys = fin.FinMap row_cmp Bool

abbrev pub or_zero : Option ℕ → ℕ
or_zero None = 0
or_zero (Some n) = n

abbrev pub or_false : Option Bool → Bool
or_false None = false
or_false (Some b) = b

abbrev pub one_if : Bool → ℕ
one_if true = 1
one_if false = 0

abbrev pub with_number : Numbers → Writer → Bool → Numbers
with_number m w logged = fin.insert m w (or_zero (fin.get m w) + one_if logged)

abbrev pub with_key : Keys → RowKey → Bool → Keys
with_key m key put = fin.insert m key (put || or_false (fin.get m key))

abbrev pub with_kind_key : Keys → EventKind → Keys
with_kind_key m (Read t table key) = with_key m (row_of table key) false
with_kind_key m (Put t table key value) = with_key m (row_of table key) true
with_kind_key m (End t committed) = m

-- one event more is found
abbrev pub with_found : Reached → Event → Reached
with_found r e = record { numbers = with_number r.numbers e.actor (logs e.kind); keys = with_kind_key r.keys e.kind }

-- the kind conflicts with an event that was found
abbrev pub hits : Keys → EventKind → Bool
hits m (Read t table key) = or_false (fin.get m (row_of table key))
hits m (Put t table key value) = is_some (fin.get m (row_of table key))
hits m (End t committed) = false

abbrev pub end_hits : List Event → Keys → EventKind → Bool
end_hits events m (Read t table key) = false
end_hits events m (Put t table key value) = false
end_hits events m (End t committed) = list_any (λ e. is_of t e && hits m e.kind) events

abbrev pub reaches : List Event → Reached → Event → Bool
reaches events r i = is_some (fin.get r.numbers i.actor) || (hits r.keys i.kind || end_hits events r.keys i.kind)

abbrev pub found_if : Bool → Reached → Event → Reached
found_if true r e = with_found r e
found_if false r e = r

-- ---- these events are found

abbrev pub on : RowKey → Event → Bool
on key e = meet (Some key) (key_of e.kind)

abbrev pub put_on : RowKey → Event → Bool
put_on key e = on key e && is_put e

pub record HasFound (r : Reached) (found : List Event) : Type 0 where
  pub actors : (w : Writer) → is_some (fin.get r.numbers w) ≡ list_any (is_by w.0) found
  pub numbers : (w : Writer) → or_zero (fin.get r.numbers w) ≡ length (filter (λ e. is_by w.0 e && is_logged e) found)
  pub keys : (key : RowKey) → is_some (fin.get r.keys key) ≡ list_any (on key) found
  pub puts : (key : RowKey) → or_false (fin.get r.keys key) ≡ list_any (put_on key) found

-- ---- the list

abbrev pub with_count : Writer → ℕ → List Count → List Count
with_count w n counts = cond (nat_eq n 0) counts (record { writer = w; number = n } ∷ counts)

abbrev pub counts_of : List (Writer × ℕ) → List Count
counts_of [] = []
counts_of (e ∷ es) = with_count e.0 e.1 (counts_of es)
