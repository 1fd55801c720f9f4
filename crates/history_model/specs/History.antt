-- The history of a run: what was read and what was logged, in the order of the steps.
use Rattle.std.specs.Prelude.{ℕ, Bool, true, false, not, ◌&&◌, nat_eq, nat_le, List, [], ◌∷◌, ◌++◌, filter_map}
use Rattle.std.specs.List.{list_any}
use Rattle.std.specs.declared.option.Option.{Option}
use Rattle.std.specs.declared.option.Option.TheVariants.{None, Some}
use Rattle.tm_data.specs.declared.transaction.Txn.{Txn}
use Rattle.tm_data.specs.declared.transaction.Writer.{Writer}
use Rattle.tm_data.specs.declared.row_map.RowKey.{RowKey}
use Rattle.tm_data.specs.declared.log.Group.{Group}
use Rattle.tm_data.specs.declared.log.Record.{Record}
use Rattle.tm_data.specs.declared.log.Record.TheVariants as change
use Rattle.key_model.specs.declared.events.Event.{Event}
use Rattle.key_model.specs.declared.events.EventKind.{EventKind}
use Rattle.key_model.specs.declared.events.EventKind.TheVariants.{Read, Put, End}
use Rattle.key_model.specs.Cuts.{Mark, Cut}

-- ---- entries

-- For each writer a stamp.
abbrev pub Bound : Type 0
Bound = ℕ → ℕ

-- What a step did: a writer's transaction was told the value of a key that it hasn't written, or a group was logged.
pub data Deed : Type 0 where
  Reads : Writer → Txn → RowKey → Deed
  Logs : Group → Deed

-- What a step did, with a bound of its causes: of each writer a stamp that none of its causes there is above.
pub record Entry : Type 0 where
  pub deed : Deed
  pub bound : Bound

abbrev pub entry : Deed → Bound → Entry
entry deed bound = record { deed = deed; bound = bound }

-- ---- the groups of a history

abbrev pub group_of : Deed → Option Group
group_of (Reads w t key) = None
group_of (Logs g) = Some g

abbrev pub groups : List Entry → List Group
groups entries = filter_map (λ e. group_of e.deed) entries

-- The writer, the number and the stamp of a group; a group is in a cut by these.
abbrev pub mark : Group → Mark
mark g = record { writer = g.writer.0; seq = g.seq; stamp = g.stamp.0 }

abbrev pub has : Cut → Group → Bool
has cut g = cut (mark g)

-- ---- the events of a history

abbrev pub event : Group → EventKind → Event
event g kind = record { actor = g.writer; seq = g.seq; stamp = g.stamp; kind = kind }

-- A row that is set is a put, and an end is an end; other records are no events.
abbrev pub event_of : Group → Record → Option Event
event_of g (change.RowSet page prev table row) = Some (event g (Put row.txn table row.key row.now))
event_of g (change.Cut page prev at) = None
event_of g (change.Format page prev body) = None
event_of g (change.NodeAdd page prev key child) = None
event_of g (change.End t committed) = Some (event g (End t committed))
event_of g change.Beat = None

abbrev pub events_of : Group → List Event
events_of g = filter_map (event_of g) g.records

-- A read has neither number nor stamp.
abbrev pub read_by : Writer → Txn → RowKey → Event
read_by w t key = record { actor = w; seq = 0; stamp = record { 0 = 0 }; kind = Read t key.table key.key }

abbrev pub events_in : Deed → List Event
events_in (Reads w t key) = read_by w t key ∷ []
events_in (Logs g) = events_of g

-- The event list: each group is replaced by its events.
abbrev pub events : List Entry → List Event
events [] = []
events (e ∷ es) = events_in e.deed ++ events es

-- The event list of groups alone.
abbrev pub logged : List Group → List Event
logged [] = []
logged (g ∷ gs) = events_of g ++ logged gs

-- ---- what a close removes

-- A group of the writer with a number up to the length, and at least one event.
abbrev pub some_event : List Event → Bool
some_event [] = false
some_event (e ∷ es) = true

abbrev pub keeps_reads : ℕ → ℕ → Deed → Bool
keeps_reads writer length (Reads w t key) = false
keeps_reads writer length (Logs g) = nat_eq writer g.writer.0 && nat_le g.seq length && some_event (events_of g)

-- A close of a writer with this length strikes the writer's groups above the length, and its reads that none of its events
-- in the groups up to the length comes after. A group without events stays, and keeps no read.
abbrev pub is_struck : ℕ → ℕ → Deed → List Entry → Bool
is_struck writer length (Reads w t key) later = nat_eq writer w.0 && not (list_any (λ e. keeps_reads writer length e.deed) later)
is_struck writer length (Logs g) later = nat_eq writer g.writer.0 && not (nat_le g.seq length)

abbrev pub unless : Bool → Entry → List Entry → List Entry
unless true e kept = kept
unless false e kept = e ∷ kept

abbrev pub closed : ℕ → ℕ → List Entry → List Entry
closed writer length [] = []
closed writer length (e ∷ later) = unless (is_struck writer length e.deed later) e (closed writer length later)
