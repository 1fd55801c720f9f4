-- Bounds of the causes of what is in a history, and the vectors that are closed under them.
use Rattle.std.specs.Prelude.{◌≡◌, ◌≢◌, ℕ, ◌≤◌, ◌<◌, Bool, true, false, cond, nat_eq, max, List, [], ◌∷◌, ◌++◌, map}
use Rattle.std.specs.List.{AllByRecursion}
use Rattle.std.specs.declared.option.Option.{Option}
use Rattle.std.specs.declared.option.Option.TheVariants.{None, Some}
use Rattle.tm_data.specs.declared.log.Group.{Group}
use Rattle.tm_data.specs.Vectors.{stamp_of}
use Rattle.key_model.specs.declared.events.Event.{Event}
use Rattle.key_model.specs.Events.{is_logged}
use Rattle.key_model.specs.Causes.{touches}
use Rattle.key_model.specs.Cuts.{under}
use Rattle.history_model.specs.History.{Bound, Deed, Reads, Logs, Entry, has, events, events_in}

-- ---- bounds

-- At each writer.
abbrev pub AtMost : Bound → Bound → Type 0
AtMost a b = (writer : ℕ) → a writer ≤ b writer

abbrev pub nothing : Bound
nothing writer = 0

abbrev pub join : Bound → Bound → Bound
join a b writer = max (a writer) (b writer)

-- This stamp of this writer alone.
abbrev pub only : ℕ → ℕ → Bound
only of stamp writer = cond (nat_eq writer of) stamp 0

-- ---- closed vectors

-- A bound names of each writer the group of its stamp, and has all of the writer's earlier groups under it.
abbrev pub has_under : Bound → Deed → Bool
has_under v (Reads w t key) = false
has_under v (Logs g) = has (under v) g

abbrev pub where_under : Bool → Bound → Bound
where_under true bound = bound
where_under false bound = nothing

-- The cover of a bound: it is joined with the bounds of all groups that it has under it.
abbrev pub cover : List Entry → Bound → Bound
cover [] v = v
cover (e ∷ entries) v = join (where_under (has_under v e.deed) e.bound) (cover entries v)

-- A bound is closed if it is its own cover: the bound of each group that it has under it is at most it.
abbrev pub IsOwnCover : List Entry → Bound → Type 0
IsOwnCover entries v = AllByRecursion (λ (e : Entry). has_under v e.deed ≡ true → AtMost e.bound v) entries

-- ---- the bounds of a history's entries

-- The bound of a writer's last group.
abbrev pub if_of : ℕ → Entry → Deed → Option Bound
if_of writer e (Reads w t key) = None
if_of writer e (Logs g) = cond (nat_eq writer g.writer.0) (Some e.bound) None

abbrev pub or_else : Option Bound → Option Bound → Option Bound
or_else None other = other
or_else (Some bound) other = Some bound

abbrev pub last_of : ℕ → List Entry → Option Bound
last_of writer [] = None
last_of writer (e ∷ entries) = or_else (last_of writer entries) (if_of writer e e.deed)

abbrev pub or_nothing : Option Bound → Bound
or_nothing None = nothing
or_nothing (Some bound) = bound

-- The bound of a group that is logged after these entries: the join of its own stamp, the bound of its writer's group
-- before it, what it learnt, and the bounds of all groups that it has under what it learnt.
abbrev pub group_bound : List Entry → Group → Bound
group_bound entries g =
    join (only g.writer.0 g.stamp.0) (join (or_nothing (last_of g.writer.0 entries)) (cover entries (stamp_of g.learnt)))

-- The bound of a read: the cover of what its writer's clock had heard then, with the stamp of the writer's last group as
-- the writer's own entry.
abbrev pub read_bound : List Entry → ℕ → ℕ → Bound → Bound
read_bound entries writer last heard = cover entries (λ w. cond (nat_eq w writer) last (heard w))

-- ---- what bounds say of causes

-- An event of the history with the bound of its entry.
pub record Bounded : Type 0 where
  pub event : Event
  pub bound : Bound

abbrev pub with_bound : Bound → Event → Bounded
with_bound bound event = record { event = event; bound = bound }

abbrev pub bounded : List Entry → List Bounded
bounded [] = []
bounded (e ∷ entries) = map (with_bound e.bound) (events_in e.deed) ++ bounded entries

-- Each event that touches a later one has at most the bound of that one.
abbrev pub TouchesRise : List Event → List Bounded → Type 0
TouchesRise all [] = Unit {0}
TouchesRise all (i ∷ later) =
    AllByRecursion (λ (j : Bounded). touches all i.event j.event ≡ true → AtMost i.bound j.bound) later × TouchesRise all later

-- The bound of a logged event has as its actor's own entry the event's stamp, and the entries of others are below it.
pub record IsBelowOwn (b : Bounded) : Type 0 where
  pub own : b.bound b.event.actor.0 ≡ b.event.stamp.0
  pub others : (writer : ℕ) → writer ≢ b.event.actor.0 → b.bound writer < b.event.stamp.0

-- Bounds order touches.
pub record BoundsOrderTouches (entries : List Entry) : Type 0 where
  pub rise : TouchesRise (events entries) (bounded entries)
  pub below : AllByRecursion (λ (b : Bounded). is_logged b.event ≡ true → IsBelowOwn b) (bounded entries)
