-- What a replica does over a list of messages, ticks and publications.
use Rattle.std.specs.Prelude.{◌≡◌, ◌≢◌, ◌<◌, ◌≤◌, ℕ, List, [], ◌∷◌, ◌++◌}
use Rattle.std.specs.List.{AllByRecursion}
use Rattle.std.specs.declared.option.Option.{Option}
use Rattle.std.specs.declared.option.Option.TheVariants.{None, Some}
use Rattle.tm_data.specs.declared.log.Group.{Group}
use Rattle.tm_data.specs.declared.vector.VectorEntry.{VectorEntry}
use Rattle.tm_data.specs.Vectors.{Covers, stamp_of}
use Rattle.tm_base.specs.declared.message.Message.{Message}
use Rattle.page_model.specs.Lists.{Among}
use Rattle.replica_model.specs.Order.{Order, line_of, offered, vector_of, waits}
use Rattle.replica_model.specs.State.{State, point, start}
use Rattle.replica_model.specs.Step.{step, ticked}
use Rattle.replica_model.specs.Reads.{publish}
use Rattle.replica_laws.specs.Runs.{Deed, Holds, Past, begun, run}

-- A message comes, the clock ticks, or a point is to be published with this bound.
pub data Input : Type 0 where
  Hears : Message → Input
  Ticks : Input
  Publishes : List VectorEntry → Input

abbrev pub after_input : State → Input → State
after_input s (Hears m) = (step s m).0
after_input s Ticks = (ticked s).0
after_input s (Publishes bound) = (publish s bound).0

abbrev pub lives : State → List Input → State
lives s [] = s
lives s (i ∷ inputs) = lives (after_input s i) inputs

-- ---- points

-- Once there, a point keeps its vector.
abbrev pub PointsStay : Type 0
PointsStay =
    (s : State) (inputs : List Input) (number : ℕ) (vector : List VectorEntry) → point s number ≡ Some vector
    → point (lives s inputs) number ≡ Some vector

-- ---- the order

-- The replica's order is at each moment that of a list of deeds, of which all holds that holds of every one.
abbrev pub OrdersRun : Type 0
OrdersRun = (number : ℕ) (inputs : List Input) → (p : Past) × ((lives (start number) inputs).order ≡ p.order) × Holds p

-- The list with more in front of it: of groups the last one stands first.
abbrev pub IsLater : List Group → List Group → Type 0
IsLater old new = (more : List Group) × (new ≡ more ++ old)

-- A moment of a replica and the next one, each with what was done with its order: what was received and what was applied is
-- only added to at its end, the frontier never falls, and the points stay, with new ones behind them.
pub record GoesOn (old new : State) (past later : Past) : Type 0 where
  pub received : IsLater past.received later.received
  pub applied : IsLater past.applied later.applied
  pub frontier : Covers later.order.frontier past.order.frontier
  pub points : (more : List (List VectorEntry)) × (new.points ≡ old.points ++ more)

-- At each moment the order is that of a list of deeds, of which all holds that holds of every one; and it goes on from the
-- moment before.
abbrev pub Moments : State → Past → List Input → Type 0
Moments s p [] = (s.order ≡ p.order) × Holds p
Moments s p (i ∷ inputs) =
    (s.order ≡ p.order) × Holds p × ((q : Past) × GoesOn s (after_input s i) p q × Moments (after_input s i) q inputs)

abbrev pub OrdersGoOn : Type 0
OrdersGoOn = (number : ℕ) (inputs : List Input) → Moments (start number) begun inputs

-- A group that isn't its writer's next changes nothing.
abbrev pub OthersChangeNothing : Type 0
OthersChangeNothing = (o : Order) (g : Group) → g.seq ≢ (line_of o g.writer.0).next → offered o g ≡ o

-- Nor does one that was received before.
abbrev pub RepeatsChangeNothing : Type 0
RepeatsChangeNothing =
    (ds : List Deed) (g : Group) → Among g (run begun ds).received → offered (run begun ds).order g ≡ (run begun ds).order

-- ---- what is waited for

-- The first entry of a vector that a frontier doesn't cover.
pub record IsFirstUncovered (frontier vector : List VectorEntry) (e : VectorEntry) : Type 0 where
  pub front : List VectorEntry
  pub back : List VectorEntry
  pub split : vector ≡ front ++ e ∷ back
  pub covered : AllByRecursion (λ (d : VectorEntry). d.stamp.0 ≤ stamp_of frontier d.writer.0) front
  pub late : stamp_of frontier e.writer.0 < e.stamp.0

-- The next group of the writer is there and may not be applied, for this entry.
pub record WaitsAt (o : Order) (writer : ℕ) (e : VectorEntry) : Type 0 where
  pub group : Group
  pub rest : List Group
  pub first : (line_of o writer).waiting ≡ group ∷ rest
  pub its : IsFirstUncovered o.frontier (vector_of (line_of o writer) group) e

-- No writer before it waits.
pub record IsLeastWaiting (o : Order) (e : VectorEntry) : Type 0 where
  pub writer : ℕ
  pub its : WaitsAt o writer e
  pub least : (q : ℕ) (d : VectorEntry) → q < writer → WaitsAt o q d → ⊥

abbrev pub WaitsTell : Order → Option VectorEntry → Type 0
WaitsTell o None = (q : ℕ) (d : VectorEntry) → WaitsAt o q d → ⊥
WaitsTell o (Some e) = IsLeastWaiting o e

abbrev pub WaitsAreOfTheLeast : Type 0
WaitsAreOfTheLeast = (o : Order) → WaitsTell o (waits o)
