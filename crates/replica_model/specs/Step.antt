-- What a replica does with a message, and on a tick.
use Rattle.std.specs.Prelude.{ℕ, zero, suc, ◌+◌, Bool, true, false, not, ◌&&◌, ◌||◌, cond, nat_eq, nat_lt, max, List, [], ◌∷◌, ◌++◌, length, sum_by}
use Rattle.std.specs.Ordering.{nat_cmp}
use Rattle.std.specs.Option.{unwrap_or}
use Rattle.std.specs.FinMap.{FinMap}
use Rattle.std.specs.FinMap as fin
use Rattle.std.specs.declared.option.Option.{Option}
use Rattle.std.specs.declared.option.Option.TheVariants.{None, Some}
use Rattle.tm_data.specs.declared.log.Group.{Group}
use Rattle.tm_data.specs.declared.log.Record.{Record}
use Rattle.tm_data.specs.declared.log.Record.TheVariants.{End}
use Rattle.tm_data.specs.declared.transaction.Writer.{Writer}
use Rattle.tm_data.specs.Orders.{txn_cmp}
use Rattle.tm_base.specs.declared.message.Message.{Message}
use Rattle.tm_base.specs.declared.message.Node.{Node}
use Rattle.tm_base.specs.declared.message.Node.TheVariants.{LogStore, LockManager, Replica}
use Rattle.tm_base.specs.declared.message.Note.{Note}
use Rattle.tm_base.specs.declared.message.Note.TheVariants as note
use Rattle.tm_base.specs.declared.message.RosterEntry.{RosterEntry}
use Rattle.tm_base.specs.declared.message.WriterState.{WriterState}
use Rattle.tm_base.specs.declared.message.WriterState.TheVariants as told
use Rattle.page_model.specs.Effects.{page_of, prev_of}
use Rattle.page_model.specs.Versions.{Held, link_of, taken}
use Rattle.page_model.specs.declared.link.Link.{Link}
use Rattle.replica_model.specs.declared.line.EndMark.{EndMark}
use Rattle.replica_model.specs.declared.line.Line.{Line}
use Rattle.replica_model.specs.Order.{Order, applied, line_of, next, offered}
use Rattle.replica_model.specs.State.{State}

-- The state after a step, and what is sent.
abbrev pub Effect : Type 0
Effect = State × List Message

-- Nothing changes, and nothing is sent.
abbrev pub ignored : State → Effect
ignored s = (s, [])

-- A message of the replica, with its scalar.
abbrev pub message : State → Node → Note → Message
message s to said = record { from = Replica s.number; to = to; stamp = record { 0 = s.scalar }; note = said }

-- ---- the roster

abbrev pub with_entries : FinMap nat_cmp RosterEntry → List RosterEntry → FinMap nat_cmp RosterEntry
with_entries roster [] = roster
with_entries roster (e ∷ es) = with_entries (fin.insert roster e.writer.0 e) es

-- One that is older than the last one is ignored.
abbrev pub on_told : State → ℕ → List RosterEntry → Bool → Effect
on_told s stamp told true = ignored s
on_told s stamp told false = (record s { roster_stamp = stamp; roster = with_entries fin.empty told }, [])

abbrev pub on_roster : State → ℕ → List RosterEntry → Effect
on_roster s stamp told = on_told s stamp told (nat_lt stamp s.roster_stamp)

-- ---- a group is applied

-- A record that changes a page is kept, unless it is none that its writer could log.
abbrev pub with_link : Held → Link → Held
with_link pages link = unwrap_or (taken pages link) pages

abbrev pub with_change : Held → ℕ → ℕ → Record → Option ℕ → Held
with_change pages writer stamp r None = pages
with_change pages writer stamp r (Some page) = cond (nat_lt (prev_of r) stamp) (with_link pages (link_of writer stamp r)) pages

abbrev pub with_changes : Held → ℕ → ℕ → List Record → Held
with_changes pages writer stamp [] = pages
with_changes pages writer stamp (r ∷ rs) = with_changes (with_change pages writer stamp r (page_of r)) writer stamp rs

-- Where each transaction ends.
abbrev pub with_end : FinMap txn_cmp EndMark → Group → Record → FinMap txn_cmp EndMark
with_end ends g (End t committed) = fin.insert ends t (record { writer = g.writer; stamp = g.stamp })
with_end ends g other = ends

abbrev pub with_ends : FinMap txn_cmp EndMark → Group → List Record → FinMap txn_cmp EndMark
with_ends ends g [] = ends
with_ends ends g (r ∷ rs) = with_ends (with_end ends g r) g rs

abbrev pub applies : State → Group → State
applies s g = record s {
  order = applied s.order g;
  pages = with_changes s.pages g.writer.0 g.stamp.0 g.records;
  ends = with_ends s.ends g g.records;
}

-- Groups are applied one after another, while there is a next one. At most as many are as wait.
abbrev pub waiting_in : (ℕ × Line) → ℕ
waiting_in e = length e.1.waiting

abbrev pub waiting : Order → ℕ
waiting o = sum_by waiting_in (fin.entries o.lines)

abbrev pub applies_some : State → Option Group → (State → State) → State
applies_some s None further = s
applies_some s (Some g) further = further (applies s g)

abbrev pub applies_upto : ℕ → State → State
applies_upto zero s = s
applies_upto (suc n) s = applies_some s (next s.order) (applies_upto n)

abbrev pub applies_all : State → State
applies_all s = applies_upto (waiting s.order) s

-- ---- groups come

-- Groups of their writer alone are received.
abbrev pub offered_of : Order → ℕ → List Group → Order
offered_of o writer [] = o
offered_of o writer (g ∷ gs) = offered_of (cond (nat_eq g.writer.0 writer) (offered o g) o) writer gs

abbrev pub is_empty : {X : Type 0} → List X → Bool
is_empty [] = true
is_empty (x ∷ xs) = false

-- No group of the writer waits.
abbrev pub is_idle : State → ℕ → Bool
is_idle s writer = is_empty (line_of s.order writer).waiting

abbrev pub asks_next : State → Node → Writer → Bool → List Message
asks_next s from writer true = message s from (note.Fetch writer (line_of s.order writer.0).next) ∷ []
asks_next s from writer false = []

-- Where any was new, all is applied that may be; and the next group is asked for, where these came from, unless one of the
-- writer's waits.
abbrev pub on_new : State → Node → Writer → Bool → Effect
on_new s from writer false = ignored s
on_new s from writer true = let new = applies_all s in (new, asks_next new from writer (is_idle new writer.0))

abbrev pub on_listed : State → Node → Writer → List Group → Option RosterEntry → Effect
on_listed s from writer groups None = ignored s
on_listed s from writer groups (Some e) =
    let order = offered_of s.order writer.0 groups in
    on_new (record s { order = order }) from writer (nat_lt (line_of s.order writer.0).next (line_of order writer.0).next)

-- Groups of a writer that isn't in the last roster are ignored.
abbrev pub on_groups : State → Node → Writer → List Group → Effect
on_groups s from writer groups = on_listed s from writer groups (fin.get s.roster writer.0)

-- ---- the step

abbrev pub on_note : State → Node → ℕ → Note → Effect
on_note s from stamp (note.Roster told) = on_roster s stamp told
on_note s from stamp (note.Groups writer groups) = on_groups s from writer groups
on_note s from stamp other = ignored s

-- The stamp of every message is heard, also of one that is ignored (Lamport 1978).
abbrev pub heard : State → ℕ → State
heard s stamp = record s { scalar = max s.scalar stamp }

abbrev pub step : State → Message → Effect
step s m = on_note (heard s m.stamp.0) m.from m.stamp.0 m.note

-- ---- the tick

abbrev pub is_live : WriterState → Bool
is_live told.Live = true
is_live told.Closed = false
is_live told.Recovered = false

-- The writer's log has an end, and all its groups were received.
abbrev pub is_received : State → RosterEntry → Bool
is_received s e = not (is_live e.state) && nat_lt e.length (line_of s.order e.writer.0).next

-- Of each writer that isn't fully received, and none of whose groups waits, the next group is asked for.
abbrev pub fetches : State → List (ℕ × RosterEntry) → List Message
fetches s [] = []
fetches s (e ∷ es) =
    cond (is_received s e.1 || not (is_idle s e.0)) (fetches s es)
    (message s (LogStore s.turn) (note.Fetch e.1.writer (line_of s.order e.0).next) ∷ fetches s es)

-- The log stores are asked in turn.
abbrev pub turn_after : ℕ → ℕ
turn_after turn = cond (nat_lt turn 3) (turn + 1) 1

abbrev pub ticked : State → Effect
ticked s = (record s { turn = turn_after s.turn }, fetches s (fin.entries s.roster) ++ message s LockManager (note.Want None) ∷ [])
