-- What holds of every run of clocks, whatever is done at them and wherever each was started.
use Rattle.std.specs.Prelude.{◌≡◌, ◌<◌, ◌≤◌, ◌⊎◌, ◌↔◌, ℕ, List, [], ◌∷◌, Some, slice_get}
use Rattle.vs_clock.specs.State.{sending}
use Rattle.vs_clock.specs.Run.{Event, Tick, SendScalar, SendVector, Receive, clock_of, Clock, Mark, World, begun, happens, run}
use Rattle.vs_clock.specs.Causes.{HappenedBefore}
use Rattle.tm_data.specs.Vectors.{stamp_of}

-- What the events of a list left.
abbrev pub history : (ℕ → ℕ) → List Event → List Mark
history start events = (run (begun start) events).past

-- At that place of the list the clock ticked, got that stamp, and was then as `after` says.
abbrev pub Ticked : List Mark → ℕ → ℕ → ℕ → Clock → Type 0
Ticked past place clock stamp after = slice_get past place ≡ Some (record { event = Tick clock; after = after; stamp = Some stamp })

-- If a tick happened before another, its stamp is smaller.
abbrev pub StampsRise : (ℕ → ℕ) → List Event → Type 0
StampsRise start events =
    (a b clock other stamp later : ℕ) (x y : Clock)
    → Ticked (history start events) a clock stamp x
    → Ticked (history start events) b other later y
    → HappenedBefore events a b
    → stamp < later

-- Writers are counted from 1.
abbrev pub NameWriters : List Event → Type 0
NameWriters [] = Unit {0}
NameWriters (event ∷ events) = (1 ≤ clock_of event) × NameWriters events

-- At that place or before it the writer named this stamp as durable.
pub record IsNamed (events : List Event) (place writer stamp : ℕ) : Type 0 where
  pub at : ℕ
  pub before : at ≤ place
  pub named : slice_get events at ≡ Some (SendVector writer stamp)

-- Each entry of each vector that is heard or sent is a stamp that its writer has named as durable.
pub record EntriesAreDurable (start : ℕ → ℕ) (events : List Event) : Type 0 where
  pub heard :
      (place writer : ℕ) (m : Mark)
      → slice_get (history start events) place ≡ Some m
      → 1 ≤ stamp_of m.after.state.heard writer
      → IsNamed events place writer (stamp_of m.after.state.heard writer)
  pub sent :
      (place clock durable writer : ℕ) (m : Mark)
      → slice_get (history start events) place ≡ Some m
      → m.event ≡ SendVector clock durable
      → 1 ≤ stamp_of (sending m.after.state durable) writer
      → IsNamed events place writer (stamp_of (sending m.after.state durable) writer)

-- Every send is by vector, and names the stamp of its clock's last tick as durable.
abbrev pub Prompt : World → Event → Type 0
Prompt w (SendScalar clock) = ⊥
Prompt w (SendVector clock durable) = durable ≡ (w.clocks clock).last
Prompt w (Tick clock) = Unit {0}
Prompt w (Receive clock send) = Unit {0}

abbrev pub IsPrompt : World → List Event → Type 0
IsPrompt w [] = Unit {0}
IsPrompt w (event ∷ events) = Prompt w event × IsPrompt (happens w event) events

-- A tick's vector, with its own stamp, covers another tick's stamp exactly where that is the same tick or
-- happened before it.
abbrev pub CoversItsCauses : (ℕ → ℕ) → List Event → Type 0
CoversItsCauses start events =
    (a b clock other stamp later : ℕ) (x y : Clock)
    → Ticked (history start events) a clock stamp x
    → Ticked (history start events) b other later y
    → (stamp ≤ stamp_of (sending y.state later) clock) ↔ ((a ≡ b) ⊎ HappenedBefore events a b)
