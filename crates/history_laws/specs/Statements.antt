-- What the laws say.
use Rattle.std.specs.Prelude.{◌≡◌, ◌↔◌, ℕ, ◌≤◌, length, ◌&&◌, true, List, ◌∷◌, ◌++◌, map, take, filter}
use Rattle.std.specs.List.{AllByRecursion}
use Rattle.tm_data.specs.declared.row_map.RowKey.{RowKey}
use Rattle.tm_data.specs.declared.log.Group.{Group}
use Rattle.key_model.specs.declared.events.Event.{Event}
use Rattle.key_model.specs.Events.{is_logged, is_by}
use Rattle.key_model.specs.Causes.{reaching, full_vector}
use Rattle.key_model.specs.Cuts.{Cut, is_in, upto, under, IsClosed, row_at, value_at, last_ended_at}
use Rattle.key_model.specs.Clean.{IsClean}
use Rattle.history_model.specs.History.{Bound, Entry, events, groups}
use Rattle.history_model.specs.Bounds.{AtMost, BoundsOrderTouches, Bounded, bounded, IsOwnCover, cover}
use Rattle.history_model.specs.Images.{rows_in, IsWhole, StampsRise, BoundsOrderPages}
use Rattle.history_model.specs.Blocks.{InBlocks, EndsComeLast, PutsStandTogether}

-- ---- bounds order touches

abbrev pub the_event : Bounded → Event
the_event b = b.event

-- The stamp is at most the actor's entry of the bound, if the event is a logged one.
abbrev pub IsCovered : Bound → Event → Type 0
IsCovered bound i = is_logged i ≡ true → i.stamp.0 ≤ bound i.actor.0

-- The bound of an event covers every logged event that reaches it.
abbrev pub BoundsCoverCauses : Type 0
BoundsCoverCauses =
    (entries : List Entry) → BoundsOrderTouches entries
    → (before after : List Bounded) (b : Bounded) → bounded entries ≡ before ++ b ∷ after
    → AllByRecursion (IsCovered b.bound) (reaching (events entries) (map the_event before) b.event)

-- A writer's logged events.
abbrev pub logged_by : ℕ → List Event → List Event
logged_by writer all = filter (λ e. is_by writer e && is_logged e) all

-- So what the full vector of an event counts of a writer, its first so many logged events, is under the event's bound.
abbrev pub FullVectorsAreUnderBounds : Type 0
FullVectorsAreUnderBounds =
    (entries : List Entry) → BoundsOrderTouches entries
    → (before after : List Bounded) (b : Bounded) → bounded entries ≡ before ++ b ∷ after
    → (writer : ℕ)
    → AllByRecursion (λ (i : Event). i.stamp.0 ≤ b.bound writer)
    (take (full_vector (events entries) (map the_event before) b.event writer) (logged_by writer (events entries)))

-- The cut of every scalar is closed.
abbrev pub ScalarCutsAreClosed : Type 0
ScalarCutsAreClosed = (entries : List Entry) → BoundsOrderTouches entries → (s : ℕ) → IsClosed (events entries) (upto s)

-- The cut of every closed vector is closed.
abbrev pub VectorCutsAreClosed : Type 0
VectorCutsAreClosed =
    (entries : List Entry) → BoundsOrderTouches entries → (v : Bound) → IsOwnCover entries v → IsClosed (events entries) (under v)

-- ---- closed cuts, counted

-- How many logged events of a writer are in a cut.
abbrev pub number_in : List Event → Cut → ℕ → ℕ
number_in all cut writer = length (filter (is_in cut) (logged_by writer all))

-- The cut has of each writer the first so many.
abbrev pub TakesFirst : List Event → Cut → Type 0
TakesFirst all cut = (writer : ℕ) → filter (is_in cut) (logged_by writer all) ≡ take (number_in all cut writer) (logged_by writer all)

-- The full vector of each event of the cut is at most the cut in every entry.
abbrev pub HoldsFullVectors : List Event → Cut → Type 0
HoldsFullVectors all cut =
    (before after : List Event) (j : Event) → all ≡ before ++ j ∷ after → is_in cut j ≡ true
    → (writer : ℕ) → full_vector all before j writer ≤ number_in all cut writer

-- A cut is closed exactly if it has of each writer the first so many events, and the full vectors of its events are at most
-- these numbers.
abbrev pub ClosedIsByFullVectors : Type 0
ClosedIsByFullVectors = (all : List Event) (cut : Cut) → IsClosed all cut ↔ (TakesFirst all cut × HoldsFullVectors all cut)

-- ---- blocks

-- A list in blocks whose ends come last in their transactions, and whose undone transactions restore each key, is clean.
abbrev pub BlocksAreClean : Type 0
BlocksAreClean = (all : List Event) → InBlocks all → EndsComeLast all → IsClean all

-- And a clean list is such a list, each transaction's puts on a key standing together.
abbrev pub CleanIsInBlocks : Type 0
CleanIsInBlocks = (all : List Event) → IsClean all → InBlocks all × EndsComeLast all × PutsStandTogether all

-- At a closed cut of such a list the value of a key is that of the last run which has its transaction's end in the cut: the
-- run's last value, which for an undone transaction is the restored one.
abbrev pub ValueIsOfLastEnded : Type 0
ValueIsOfLastEnded =
    (all : List Event) (cut : Cut) → InBlocks all → EndsComeLast all → IsClosed all cut
    → (key : RowKey) → value_at all cut key ≡ last_ended_at all cut key

-- ---- rows

-- At every cut the rows that are made one put after another are the rows at the cut, where each transaction's puts on a
-- key stand together.
abbrev pub RowsAreMadeInTurn : Type 0
RowsAreMadeInTurn =
    (entries : List Entry) (cut : Cut) → PutsStandTogether (events entries)
    → (key : RowKey) → rows_in cut (groups entries) key ≡ row_at (events entries) cut key

-- ---- cuts that are whole for pages

abbrev pub ScalarCutsAreWhole : Type 0
ScalarCutsAreWhole = (gs : List Group) → StampsRise gs → (s : ℕ) → IsWhole gs (upto s)

abbrev pub VectorCutsAreWhole : Type 0
VectorCutsAreWhole = (entries : List Entry) → BoundsOrderPages entries → (v : Bound) → IsOwnCover entries v → IsWhole (groups entries) (under v)

-- ---- covers

-- Of each group its bound is its own cover.
abbrev pub BoundsAreCovers : List Entry → Type 0
BoundsAreCovers entries = AllByRecursion (λ (e : Entry). IsOwnCover entries e.bound) entries

-- The cover of a bound is at least it and, where each entry's bound is its own cover, its own cover, and it is at most each of
-- these that is at least the bound.
pub record IsLeastCover (entries : List Entry) (v u : Bound) : Type 0 where
  pub least : AtMost v u
  pub own : BoundsAreCovers entries → IsOwnCover entries u
  pub most : (other : Bound) → AtMost v other → IsOwnCover entries other → AtMost u other

abbrev pub CoversAreLeast : Type 0
CoversAreLeast = (entries : List Entry) (v : Bound) → IsLeastCover entries v (cover entries v)
