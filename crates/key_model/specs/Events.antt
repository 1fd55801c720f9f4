-- The event list: the reads, puts and ends of a run, in the order of its steps.
use Rattle.std.specs.Prelude.{ℕ, Bool, true, false, ◌&&◌, ◌||◌, nat_eq, nat_le, not, List, [], ◌∷◌}
use Rattle.std.specs.List.{list_any}
use Rattle.std.specs.declared.option.Option.{Option}
use Rattle.std.specs.declared.option.Option.TheVariants.{None, Some}
use Rattle.tm_data.specs.declared.transaction.Txn.{Txn}
use Rattle.tm_data.specs.declared.row_map.RowKey.{RowKey}
use Rattle.key_model.specs.Steps.{row_of}
use Rattle.key_model.specs.After.{same_txn, same_row}
pub use Rattle.key_model.specs.declared.events.Event.{Event}
pub use Rattle.key_model.specs.declared.events.EventKind.{EventKind}
pub use Rattle.key_model.specs.declared.events.EventKind.TheVariants.{Read, Put, End}

-- ---- what an event is

-- Puts and ends are the logged events; a read isn't one.
abbrev pub logs : EventKind → Bool
logs (Read t table key) = false
logs (Put t table key value) = true
logs (End t committed) = true

abbrev pub puts : EventKind → Bool
puts (Read t table key) = false
puts (Put t table key value) = true
puts (End t committed) = false

-- The key that it is on: an end is on none.
abbrev pub key_of : EventKind → Option RowKey
key_of (Read t table key) = Some (row_of table key)
key_of (Put t table key value) = Some (row_of table key)
key_of (End t committed) = None

-- It is an event of this transaction.
abbrev pub concerns : Txn → EventKind → Bool
concerns t (Read u table key) = same_txn t u
concerns t (Put u table key value) = same_txn t u
concerns t (End u committed) = same_txn t u

-- It is the end of this transaction.
abbrev pub ends : Txn → EventKind → Bool
ends t (Read u table key) = false
ends t (Put u table key value) = false
ends t (End u committed) = same_txn t u

abbrev pub is_logged : Event → Bool
is_logged e = logs e.kind

abbrev pub is_put : Event → Bool
is_put e = puts e.kind

abbrev pub is_of : Txn → Event → Bool
is_of t e = concerns t e.kind

abbrev pub is_end_of : Txn → Event → Bool
is_end_of t e = ends t e.kind

-- The writer made it.
abbrev pub is_by : ℕ → Event → Bool
is_by writer e = nat_eq writer e.actor.0

-- The transaction has its End among these events.
abbrev pub has_end : Txn → List Event → Bool
has_end t events = list_any (is_end_of t) events

-- ---- keys

abbrev pub meet : Option RowKey → Option RowKey → Bool
meet None other = false
meet (Some key) None = false
meet (Some key) (Some other) = same_row key other

-- Both are on one key, and at least one of them is a put.
abbrev pub conflicts : Event → Event → Bool
conflicts i j = meet (key_of i.kind) (key_of j.kind) && (is_put i || is_put j)

-- ---- what a close strikes

-- A logged event of the writer in one of its groups 1 to `length`.
abbrev pub is_kept_log : ℕ → ℕ → Event → Bool
is_kept_log writer length e = is_by writer e && is_logged e && nat_le e.seq length

abbrev pub unless_struck : Bool → Event → List Event → List Event
unless_struck true e later = later
unless_struck false e later = e ∷ later

-- A close of a writer with this length keeps the writer's events up to its last logged event in groups 1 to the
-- length: those that are one or have one after them. It strikes the writer's other events, reads included.
abbrev pub after_close : ℕ → ℕ → List Event → List Event
after_close writer length [] = []
after_close writer length (e ∷ later) =
    unless_struck (is_by writer e && not (list_any (is_kept_log writer length) (e ∷ later))) e (after_close writer length later)
