-- Cuts through an event list, and the rows and the map at a cut.
use Rattle.std.specs.Prelude.{◌≡◌, ℕ, Bool, true, false, cond, ◌&&◌, nat_le, List, [], ◌∷◌, ◌++◌, filter_map}
use Rattle.std.specs.List.{AllByRecursion, list_any}
use Rattle.std.specs.declared.option.Option.{Option}
use Rattle.std.specs.declared.option.Option.TheVariants.{None, Some}
use Rattle.tm_data.specs.declared.transaction.Txn.{Txn}
use Rattle.tm_data.specs.declared.row_map.RowKey.{RowKey}
use Rattle.tm_data.specs.declared.row.Row.{Row}
use Rattle.tm_data.specs.declared.row.Before.{Before}
use Rattle.tm_data.specs.declared.row.Before.TheVariants.{Same, Was}
use Rattle.tm_data.specs.declared.vector.VectorEntry.{VectorEntry}
use Rattle.tm_data.specs.Vectors.{stamp_of}
use Rattle.key_model.specs.Steps.{row_of, or_mapped}
use Rattle.key_model.specs.After.{same_txn, same_row, same_value}
use Rattle.key_model.specs.Events.{Event, EventKind, Read, Put, End, is_logged, has_end}
use Rattle.key_model.specs.Causes.{reaching}

-- ---- cuts

-- The group that logged an event: its writer, its number there and its stamp.
pub record Mark : Type 0 where
  pub writer : ℕ
  pub seq : ℕ
  pub stamp : ℕ

abbrev pub mark_of : Event → Mark
mark_of e = record { writer = e.actor.0; seq = e.seq; stamp = e.stamp.0 }

-- A cut says of each group whether it is in it, and so of each logged event. A closed one has of each writer the first
-- so many, since an event is touched by all earlier ones of its actor.
abbrev pub Cut : Type 0
Cut = Mark → Bool

abbrev pub is_in : Cut → Event → Bool
is_in cut e = is_logged e && cut (mark_of e)

-- The cut of a scalar: stamps up to it.
abbrev pub upto : ℕ → Cut
upto s m = nat_le m.stamp s

-- The cut of a stamp for each writer: the writer's stamps up to it.
abbrev pub under : (ℕ → ℕ) → Cut
under stamps m = nat_le m.stamp (stamps m.writer)

-- The cut of a vector.
abbrev pub of_vector : List VectorEntry → Cut
of_vector v = under (stamp_of v)

-- The cut of a number for each writer: the writer's groups up to that number.
abbrev pub numbered_upto : (ℕ → ℕ) → Cut
numbered_upto numbers m = nat_le m.seq (numbers m.writer)

-- The event is in the cut if it is a logged one.
abbrev pub IsIn : Cut → Event → Type 0
IsIn cut e = is_logged e ≡ true → cut (mark_of e) ≡ true

-- A cut is closed if each logged event that reaches one of its events is in it.
abbrev pub IsClosed : List Event → Cut → Type 0
IsClosed events cut =
    (before after : List Event) (j : Event) → events ≡ before ++ j ∷ after → is_in cut j ≡ true
    → AllByRecursion (IsIn cut) (reaching events before j)

-- The events of a cut, the last first: found one after another, in front of those that were found before.
abbrev pub gathered : Cut → List Event → List Event → List Event
gathered cut past [] = past
gathered cut past (e ∷ events) = gathered cut (cond (is_in cut e) (e ∷ past) past) events

abbrev pub within : Cut → List Event → List Event
within cut events = gathered cut [] events

-- ---- the puts of a key

-- What a put made of its key.
pub record Written : Type 0 where
  pub txn : Txn
  pub value : Option (List ℕ)

abbrev pub written_if : Bool → Txn → Option (List ℕ) → Option Written
written_if true t value = Some (record { txn = t; value = value })
written_if false t value = None

abbrev pub written : RowKey → EventKind → Option Written
written key (Read t table k) = None
written key (Put t table k value) = written_if (same_row key (row_of table k)) t value
written key (End t committed) = None

-- The puts on a key among some events, in the same order.
abbrev pub puts_on : RowKey → List Event → List Written
puts_on key events = filter_map (λ e. written key e.kind) events

-- The transaction made one of the puts.
abbrev pub wrote : Txn → List Written → Bool
wrote t ws = list_any (λ w. same_txn t w.txn) ws

-- The transaction made the last of the puts, of which the last comes first.
abbrev pub wrote_last : Txn → List Written → Bool
wrote_last t [] = false
wrote_last t (w ∷ ws) = same_txn t w.txn

-- The value after the puts, of which the last comes first.
abbrev pub value_after : List Written → Option (List ℕ)
value_after [] = None
value_after (w ∷ ws) = w.value

-- The value before a transaction: that of the last put before the transaction's first one, or none. The last put comes
-- first here; so where the transaction made one of those behind it, that one decides.
abbrev pub value_before : Txn → List Written → Option (List ℕ)
value_before t [] = None
value_before t (w ∷ ws) = cond (wrote t ws) (value_before t ws) (value_after ws)

-- The transaction's last put has the value before its first.
abbrev pub Restores : Txn → List Written → Type 0
Restores t ws = value_after ws ≡ value_before t ws

-- ---- the rows at a cut

-- `before` is Same where the value before equals the value now.
abbrev pub before_of : Option (List ℕ) → Option (List ℕ) → Before
before_of now was = cond (same_value was now) Same (Was was)

-- The row of a key is that of its last put: its transaction, its value and the value before the transaction.
abbrev pub row_by : RowKey → List Written → Option Row
row_by key [] = None
row_by key (w ∷ ws) =
    Some (record { key = key.key; txn = w.txn; now = w.value; before = before_of w.value (value_before w.txn (w ∷ ws)) })

-- The row of a key at a cut, none where the cut has no put on it.
abbrev pub row_at : List Event → Cut → RowKey → Option Row
row_at events cut key = row_by key (puts_on key (within cut events))

-- ---- the map at a cut

-- The value of a key is that of its last put if the end of the put's transaction is there, else the value before that
-- transaction.
abbrev pub value_by : List Event → List Written → Option (List ℕ)
value_by past [] = None
value_by past (w ∷ ws) = cond (has_end w.txn past) w.value (value_before w.txn (w ∷ ws))

-- The value of a key at a cut. A key without a value isn't in the map.
abbrev pub value_at : List Event → Cut → RowKey → Option (List ℕ)
value_at events cut key = value_by (within cut events) (puts_on key (within cut events))

-- ---- the fold of the committed transactions

-- What a transaction made of a key: its last put there, if it made one.
abbrev pub made : Txn → List Written → Option (Option (List ℕ))
made t [] = None
made t (w ∷ ws) = cond (same_txn t w.txn) (Some w.value) (made t ws)

-- A committed end enters the values of its transaction; each other event changes nothing.
abbrev pub entered : EventKind → RowKey → List Event → Option (List ℕ) → Option (List ℕ)
entered (Read t table k) key past value = value
entered (Put t table k x) key past value = value
entered (End t true) key past value = or_mapped (made t (puts_on key past)) value
entered (End t false) key past value = value

-- The value of a key after the committed transactions of these events, of which the last comes first: each enters its
-- values at its end, in the order of the ends.
abbrev pub folded : RowKey → List Event → Option (List ℕ)
folded key [] = None
folded key (e ∷ past) = entered e.kind key past (folded key past)

abbrev pub folded_at : List Event → Cut → RowKey → Option (List ℕ)
folded_at events cut key = folded key (within cut events)

-- ---- the last put that ended

-- The value of the last put whose transaction has its end among the events; none where there is no such put. The last
-- put comes first here.
abbrev pub last_ended : List Event → List Written → Option (List ℕ)
last_ended past [] = None
last_ended past (w ∷ ws) = cond (has_end w.txn past) w.value (last_ended past ws)

abbrev pub last_ended_at : List Event → Cut → RowKey → Option (List ℕ)
last_ended_at events cut key = last_ended (within cut events) (puts_on key (within cut events))
