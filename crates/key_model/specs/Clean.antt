-- Clean event lists: transactions that exclude each other on the keys that they put.
use Rattle.std.specs.Prelude.{◌≡◌, ◌⊎◌, ℕ, Bool, true, false, List, [], ◌∷◌}
use Rattle.std.specs.List.{AllByRecursion}
use Rattle.tm_data.specs.declared.transaction.Txn.{Txn}
use Rattle.tm_data.specs.declared.row_map.RowKey.{RowKey}
use Rattle.key_model.specs.Steps.{row_of}
use Rattle.key_model.specs.Events.{Event, EventKind, Read, Put, End, is_of, is_by, has_end}
use Rattle.key_model.specs.Cuts.{Cut, IsClosed, Written, value_at, folded_at, puts_on, wrote, wrote_last, Restores}

-- What each event of a clean list wants of those before it, the last of which comes first.

-- A transaction has no event after its end.
abbrev pub IsOpen : Txn → List Event → Type 0
IsOpen t past = has_end t past ≡ false

-- An end comes once, from the actor of all events of its transaction. Of each key that the transaction put, its puts are
-- the last: another transaction put the key only before, or it did so after a transaction that never ends. An undone
-- transaction's last put on each key has the value before its first one.
pub record MayEnd (past : List Event) (actor : ℕ) (t : Txn) (committed : Bool) : Type 0 where
  pub once : IsOpen t past
  pub own : AllByRecursion (λ e. is_of t e ≡ true → is_by actor e ≡ true) past
  pub last : (key : RowKey) → wrote t (puts_on key past) ≡ true → wrote_last t (puts_on key past) ≡ true
  pub undone : committed ≡ false → (key : RowKey) → wrote t (puts_on key past) ≡ true → Restores t (puts_on key past)

-- The transaction of the last put is over for the key: it has ended, or its last put has the value before its first one,
-- in which case it never ends (`last` above).
abbrev pub IsOver : List Event → List Written → Type 0
IsOver past [] = Unit {0}
IsOver past (w ∷ ws) = (has_end w.txn past ≡ true) ⊎ Restores w.txn (w ∷ ws)

-- A put comes before its transaction's end. The transaction's puts on a key stand together among the puts of the key,
-- and where those of another one came before, that one is over.
pub record MayPut (past : List Event) (t : Txn) (key : RowKey) : Type 0 where
  pub open_ : IsOpen t past
  pub together : wrote t (puts_on key past) ≡ true → wrote_last t (puts_on key past) ≡ true
  pub over : wrote_last t (puts_on key past) ≡ false → IsOver past (puts_on key past)

abbrev pub MayFollow : List Event → ℕ → EventKind → Type 0
MayFollow past actor (Read t table key) = IsOpen t past
MayFollow past actor (Put t table key value) = MayPut past t (row_of table key)
MayFollow past actor (End t committed) = MayEnd past actor t committed

abbrev pub CleanFrom : List Event → List Event → Type 0
CleanFrom past [] = Unit {0}
CleanFrom past (e ∷ events) = MayFollow past e.actor.0 e.kind × CleanFrom (e ∷ past) events

-- A list is clean if each of its events may follow those before it.
abbrev pub IsClean : List Event → Type 0
IsClean events = CleanFrom [] events

-- ---- the law of the map

-- At every closed cut of a clean list the map is the fold of the committed transactions whose end is in the cut.
abbrev pub MapIsFold : Type 0
MapIsFold = (events : List Event) (cut : Cut) → IsClean events → IsClosed events cut → (key : RowKey) → value_at events cut key ≡ folded_at events cut key
