-- The log of one writer: its groups, with the log stores that acknowledged each. Durable groups may be let go from its
-- front: what is asked of the log is answered as if it still had them.
use Rattle.std.specs.Prelude.{◌≡◌, ◌<◌, ℕ, ◌+◌, ◌-◌, Bool, false, cond, not, ◌&&◌, nat_eq, nat_le, nat_lt, List, [], ◌∷◌, ◌++◌, length, take, drop, map, slice_get, slice_set, Option, Some, None}
use Rattle.std.specs.List.{filter, prefix_len}
use Rattle.tm_data.specs.declared.log.Group.{Group}
use Rattle.tm_data.specs.declared.transaction.Writer.{Writer}
use Rattle.log_writer.specs.declared.logged.Logged.{Logged}
use Rattle.log_writer.specs.Acks.{all_acks, has, has_all, no_acks, with_ack, least_lacking}

pub record Log : Type 0 where
  pub writer : Writer
  -- how many groups were let go from the front: the number of the last of them
  pub gone : ℕ
  -- its stamp, 0 where none was let go
  pub gone_stamp : ℕ
  -- the groups that follow
  pub groups : List Logged

-- A writer's log before its first group.
abbrev pub new_log : Writer → Log
new_log writer = record { writer = writer; gone = 0; gone_stamp = 0; groups = [] }

-- ---- groups by place

-- The group of a place, counted from 1.
abbrev pub placed : List Logged → ℕ → Option Logged
placed groups place = cond (nat_eq place 0) None (slice_get groups (place - 1))

-- Its stamp, 0 where there is no such group.
abbrev pub stamp_of : Option Logged → ℕ
stamp_of None = 0
stamp_of (Some logged) = logged.group.stamp.0

-- The stamp of a place, where that of place 0 is `before`.
abbrev pub stamp_at : ℕ → List Logged → ℕ → ℕ
stamp_at before groups place = cond (nat_eq place 0) before (stamp_of (slice_get groups (place - 1)))

-- How many groups are in the longest prefix that one store acknowledged.
abbrev pub reached : List Logged → ℕ → ℕ
reached groups store = prefix_len (λ logged. has logged.acks store) groups

-- How many are in the longest prefix that all three acknowledged.
abbrev pub durable_count : List Logged → ℕ
durable_count groups = prefix_len (λ logged. has_all logged.acks) groups

-- The groups are this writer's, numbered from `seq` on without gaps, and their stamps rise, all above `after`.
abbrev pub InOrder : Writer → ℕ → ℕ → List Logged → Type 0
InOrder writer seq after [] = Unit {0}
InOrder writer seq after (l ∷ ls) = (l.group.writer ≡ writer) × (l.group.seq ≡ seq) × (after < l.group.stamp.0) × InOrder writer (seq + 1) l.group.stamp.0 ls

-- ---- groups by number

-- The group of a number, none where there is no such group, or no more: groups are numbered from 1.
abbrev pub numbered : Log → ℕ → Option Logged
numbered log seq = placed log.groups (seq - log.gone)

abbrev pub group_of : Option Logged → Option Group
group_of None = None
group_of (Some logged) = Some logged.group

-- Whether it was let go.
abbrev pub was_let_go : Log → ℕ → Bool
was_let_go log seq = nat_lt 0 seq && nat_le seq log.gone

-- The number of the last group, and its stamp, both 0 where nothing was logged.
abbrev pub last_seq : Log → ℕ
last_seq log = log.gone + length log.groups

abbrev pub last_stamp : Log → ℕ
last_stamp log = stamp_at log.gone_stamp log.groups (length log.groups)

-- What holds of every log: its groups are its writer's, numbered on from those that were let go, and their stamps rise
-- above the stamps of these.
abbrev pub IsLog : Log → Type 0
IsLog log = InOrder log.writer (log.gone + 1) log.gone_stamp log.groups

-- These groups may follow in a log.
abbrev pub AreNext : Writer → ℕ → ℕ → List Group → Type 0
AreNext writer last after [] = Unit {0}
AreNext writer last after (g ∷ gs) = (g.writer ≡ writer) × (g.seq ≡ last + 1) × (after < g.stamp.0) × AreNext writer (last + 1) g.stamp.0 gs

-- ---- what changes it

-- A group that no store has acknowledged.
abbrev pub unacknowledged : Group → Logged
unacknowledged group = record { group = group; acks = no_acks }

-- One more group.
abbrev pub appended : Log → Group → Log
appended log group = record log { groups = log.groups ++ unacknowledged group ∷ [] }

-- Several more, one after another.
abbrev pub appended_all : Log → List Group → Log
appended_all log [] = log
appended_all log (g ∷ gs) = appended_all (appended log g) gs

-- A store acknowledges a group. Of a group that isn't there nothing is noted, nor of another store than 1 to 3.
abbrev pub acked_there : List Logged → ℕ → ℕ → Option Logged → List Logged
acked_there groups store place None = groups
acked_there groups store place (Some logged) = slice_set groups place (record logged { acks = with_ack logged.acks store })

abbrev pub acked_at : List Logged → ℕ → ℕ → List Logged
acked_at groups store place = cond (nat_eq place 0) groups (acked_there groups store (place - 1) (slice_get groups (place - 1)))

abbrev pub acked : Log → ℕ → ℕ → Log
acked log store seq = record log { groups = acked_at log.groups store (seq - log.gone) }

-- ---- what it says

-- The number of the last durable group: it and all before it are acknowledged by all three stores.
abbrev pub durable_seq : Log → ℕ
durable_seq log = log.gone + durable_count log.groups

-- Its stamp.
abbrev pub durable_stamp : Log → ℕ
durable_stamp log = stamp_at log.gone_stamp log.groups (durable_count log.groups)

-- The stamp up to which every change of the writer is durable: one less than that of the first group that
-- isn't, or the scalar where every group is.
abbrev pub settled_before : Option Logged → ℕ → ℕ
settled_before None scalar = scalar
settled_before (Some logged) scalar = logged.group.stamp.0 - 1

abbrev pub settled : Log → ℕ → ℕ
settled log scalar = settled_before (slice_get log.groups (durable_count log.groups)) scalar

-- Whether a store acknowledged the group of a number. One that was let go, all three did.
abbrev pub marked_of : Option Logged → ℕ → Bool
marked_of None store = false
marked_of (Some logged) store = has logged.acks store

abbrev pub is_marked : Log → ℕ → ℕ → Bool
is_marked log seq store = cond (was_let_go log seq) (has all_acks store) (marked_of (numbered log seq) store)

-- The least store that hasn't acknowledged a group. One that isn't there, none has; one that was let go, all have.
abbrev pub lacking_of : Option Logged → Option ℕ
lacking_of None = Some 1
lacking_of (Some logged) = least_lacking logged.acks.first logged.acks.second logged.acks.third

abbrev pub lacking : Log → ℕ → Option ℕ
lacking log seq = cond (was_let_go log seq) None (lacking_of (numbered log seq))

-- The groups that a store hasn't acknowledged.
abbrev pub unacked : List Logged → ℕ → List Group
unacked groups store = map (λ logged. logged.group) (filter (λ logged. not (has logged.acks store)) groups)

-- The first 16 of them.
abbrev pub resent : List Logged → ℕ → List Group
resent groups store = take 16 (unacked groups store)

-- ---- durable groups go

-- The durable groups are let go: of them the last one's number and stamp are kept.
abbrev pub let_go : Log → Log
let_go log = record {
  writer = log.writer;
  gone = durable_seq log;
  gone_stamp = durable_stamp log;
  groups = drop (durable_count log.groups) log.groups;
}
