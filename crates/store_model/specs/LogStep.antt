-- What a log store does with a message, and on a tick.
use Rattle.std.specs.Prelude.{ℕ, ◌+◌, ◌-◌, List, [], ◌∷◌, ◌++◌, length, take, drop, Bool, true, false, ◌||◌, nat_eq, nat_le, nat_lt, max}
use Rattle.std.specs.declared.option.Option.{Option}
use Rattle.std.specs.declared.option.Option.TheVariants.{None, Some}
use Rattle.tm_data.specs.contracts.log.GroupPartialEq.TheImpl as group_eq
use Rattle.tm_data.specs.declared.log.Group.{Group}
use Rattle.tm_data.specs.declared.transaction.Writer.{Writer}
use Rattle.tm_base.specs.GroupSizes.{group_size}
use Rattle.tm_base.specs.declared.message.Message.{Message}
use Rattle.tm_base.specs.declared.message.Node.{Node}
use Rattle.tm_base.specs.declared.message.Node.TheVariants.{LogStore, LockManager}
use Rattle.tm_base.specs.declared.message.Note.{Note}
use Rattle.tm_base.specs.declared.message.Note.TheVariants as note
use Rattle.tm_base.specs.declared.message.RosterEntry.{RosterEntry}
use Rattle.tm_base.specs.declared.message.WriterState.{WriterState}
use Rattle.tm_base.specs.declared.message.WriterState.TheVariants as told
use Rattle.store_model.specs.LogState.{Log, LogStoreState, log_in, log_of, put, with_log, numbered}

-- The state after a step, and what is sent.
abbrev pub Effect : Type 0
Effect = LogStoreState × List Message

-- Nothing changes, and nothing is sent.
abbrev pub ignored : LogStoreState → Effect
ignored s = (s, [])

-- A message of the log store, with its scalar.
abbrev pub message : LogStoreState → Node → Note → Message
message s to said = record { from = LogStore s.number; to = to; stamp = record { 0 = s.scalar }; note = said }

-- The answer to whoever asked.
abbrev pub answers : LogStoreState → Node → Note → List Message
answers s to said = message s to said ∷ []

-- ---- a group is to be kept

-- Whether two groups are the same.
abbrev pub same_group : Group → Group → Bool
same_group = (group_eq.ghosts).eq

-- The log with one more group.
abbrev pub with_group : Log → Group → Log
with_group log group = record log { groups = log.groups ++ group ∷ [] }

-- A group that is held is acknowledged again. Another one of its number is ignored.
abbrev pub on_held : LogStoreState → Node → Group → Bool → Effect
on_held s from group true = (s, answers s from (note.Ack group.writer group.seq))
on_held s from group false = ignored s

-- The next group is kept and acknowledged. Of one above the next, the next is asked for. There is no group of
-- number 0.
abbrev pub on_new : LogStoreState → Node → Group → Log → Bool → Bool → Effect
on_new s from group log true above = (with_log s group.writer.0 (with_group log group), answers s from (note.Ack group.writer group.seq))
on_new s from group log false true = (s, answers s from (note.Gap group.writer (length log.groups + 1)))
on_new s from group log false false = ignored s

abbrev pub on_numbered : LogStoreState → Node → Group → Log → Option Group → Effect
on_numbered s from group log None = on_new s from group log (nat_eq group.seq (length log.groups + 1)) (nat_lt (length log.groups + 1) group.seq)
on_numbered s from group log (Some held) = on_held s from group (same_group held group)

-- A sealed log takes no group.
abbrev pub on_unsealed : LogStoreState → Node → Group → Log → Bool → Effect
on_unsealed s from group log true = (s, answers s from (note.Sealed group.writer (length log.groups)))
on_unsealed s from group log false = on_numbered s from group log (numbered log.groups group.seq)

abbrev pub on_append : LogStoreState → Node → Group → Effect
on_append s from group = on_unsealed s from group (log_of s group.writer.0) (log_of s group.writer.0).is_sealed

-- ---- groups are on every log store

-- Such a word never lowers the mark. A close sets it, also to less.
abbrev pub with_mark : Log → ℕ → Log
with_mark log seq = record log { mark = max log.mark seq }

abbrev pub on_stable : LogStoreState → Writer → ℕ → Effect
on_stable s writer seq = (with_log s writer.0 (with_mark (log_of s writer.0) seq), [])

-- ---- a log ends

abbrev pub with_seal : Log → Log
with_seal log = record log { is_sealed = true }

abbrev pub on_seal : LogStoreState → Node → Writer → Effect
on_seal s from writer =
    (with_log s writer.0 (with_seal (log_of s writer.0)), answers s from (note.SealedAt writer (length (log_of s writer.0).groups)))

-- A log that was closed is sealed, and its groups up to the length may be served.
abbrev pub closed_at : Log → ℕ → Log
closed_at log len = record log { mark = len; is_sealed = true }

abbrev pub with_closed : List (ℕ × Log) → ℕ → ℕ → List (ℕ × Log)
with_closed logs writer len = put logs writer (closed_at (log_in logs writer) len)

abbrev pub on_closed : LogStoreState → Writer → ℕ → Effect
on_closed s writer len = (record s { logs = with_closed s.logs writer.0 len }, [])

-- A writer that isn't live is closed.
abbrev pub with_state : List (ℕ × Log) → RosterEntry → WriterState → List (ℕ × Log)
with_state logs e told.Live = logs
with_state logs e told.Closed = with_closed logs e.writer.0 e.length
with_state logs e told.Recovered = with_closed logs e.writer.0 e.length

abbrev pub with_entries : List (ℕ × Log) → List RosterEntry → List (ℕ × Log)
with_entries logs [] = logs
with_entries logs (e ∷ es) = with_entries (with_state logs e e.state) es

abbrev pub on_roster : LogStoreState → List RosterEntry → Effect
on_roster s entries = (record s { logs = with_entries s.logs entries }, [])

-- ---- groups are asked for

-- The bytes that a message of groups has at most, unless it has one group alone.
abbrev pub MAX_BYTES : ℕ
MAX_BYTES = 1048576

-- The bytes of it beside the groups: two nodes (4), the stamp (8), the kind (1), the writer and the count (8).
abbrev pub HEAD_BYTES : ℕ
HEAD_BYTES = 21

-- The first group in any case, and each further one while there is room for it.
abbrev pub fits_if : Bool → Group → List Group → List Group
fits_if true group groups = group ∷ groups
fits_if false group groups = []

abbrev pub fits : Bool → ℕ → List Group → List Group
fits first room [] = []
fits first room (g ∷ gs) = fits_if (first || nat_le (group_size g) room) g (fits false (room - group_size g) gs)

abbrev pub fitting : List Group → List Group
fitting groups = fits true (MAX_BYTES - HEAD_BYTES) groups

-- The groups held from a number on, up to the mark. From 0 on is from 1 on.
abbrev pub servable : Log → ℕ → List Group
servable log first = drop (first - 1) (take log.mark log.groups)

abbrev pub serves : LogStoreState → Node → Writer → List Group → Effect
serves s from writer [] = ignored s
serves s from writer (g ∷ gs) = (s, answers s from (note.Groups writer (g ∷ gs)))

abbrev pub on_fetch : LogStoreState → Node → Writer → ℕ → Effect
on_fetch s from writer first = serves s from writer (fitting (servable (log_of s writer.0) first))

-- ---- the step

abbrev pub on_note : LogStoreState → Node → Note → Effect
on_note s from (note.Append group) = on_append s from group
on_note s from (note.Stable writer seq) = on_stable s writer seq
on_note s from (note.Seal writer) = on_seal s from writer
on_note s from (note.Closed writer len store) = on_closed s writer len
on_note s from (note.Roster entries) = on_roster s entries
on_note s from (note.Fetch writer first) = on_fetch s from writer first
on_note s from _ = ignored s

-- The scalar is at least what was heard (Lamport 1978).
abbrev pub heard : LogStoreState → ℕ → LogStoreState
heard s stamp = record s { scalar = max s.scalar stamp }

-- The stamp of every message is heard, also of one that is ignored.
abbrev pub stepped : LogStoreState → Message → Effect
stepped s m = on_note (heard s m.stamp.0) m.from m.note

-- On a tick the roster is asked for.
abbrev pub ticked : LogStoreState → Effect
ticked s = (s, answers s LockManager (note.Want None))
