-- What is applied as a cut of a history.
use Rattle.std.specs.Prelude.{◌≡◌, ◌↔◌, ◌<◌, ◌≤◌, ℕ, true, List, [], ◌∷◌, ◌++◌}
use Rattle.std.specs.List.{AllByRecursion}
use Rattle.std.specs.declared.option.Option.TheVariants.{Some}
use Rattle.tm_data.specs.declared.log.Group.{Group}
use Rattle.tm_data.specs.declared.vector.VectorEntry.{VectorEntry}
use Rattle.tm_data.specs.Vectors.{IsVector, joined, stamp_of}
use Rattle.tm_base.specs.declared.message.Note.{Note}
use Rattle.tm_base.specs.declared.message.Note.TheVariants as note
use Rattle.page_model.specs.Lists.{Among}
use Rattle.key_model.specs.Cuts.{IsClosed, of_vector}
use Rattle.history_model.specs.History.{Bound, Deed, Entry, Logs, Reads, events, groups, has}
use Rattle.history_model.specs.Bounds.{AtMost, BoundsOrderTouches, IsOwnCover, group_bound}
use Rattle.replica_model.specs.State.{point, start}
use Rattle.replica_laws.specs.Runs.{Holds, Past, learnt, of}
use Rattle.replica_laws.specs.Lives.{Hears, Input, Publishes, Ticks, lives}

-- The group comes after this one in its writer's list, if it is one writer's: numbers and stamps rise.
abbrev pub ComesAfter : Group → Group → Type 0
ComesAfter g h = h.writer.0 ≡ g.writer.0 → (h.seq < g.seq) × (h.stamp.0 < g.stamp.0)

-- A group that was logged after these entries: its number and its stamp are above those of its writer's groups there; and its
-- bound is at most what its causes' bounds make there.
pub record IsLogged (past : List Entry) (bound : Bound) (g : Group) : Type 0 where
  pub number : 1 ≤ g.seq
  pub stamp : 1 ≤ g.stamp.0
  pub learnt : IsVector g.learnt
  pub later : AllByRecursion (ComesAfter g) (groups past)
  pub causes : AtMost bound (group_bound past g)

abbrev pub IsMade : List Entry → Bound → Deed → Type 0
IsMade past bound (Reads w t key) = Unit {0}
IsMade past bound (Logs g) = IsLogged past bound g

abbrev pub AreMadeFrom : List Entry → List Entry → Type 0
AreMadeFrom past [] = Unit {0}
AreMadeFrom past (e ∷ entries) = IsMade past e.bound e.deed × AreMadeFrom (past ++ e ∷ []) entries

-- Of each writer the groups are one list, and bounds are in causal order.
abbrev pub IsCausal : List Entry → Type 0
IsCausal entries = AreMadeFrom [] entries

-- A message brings groups of the history alone.
abbrev pub BringsOf : List Group → Note → Type 0
BringsOf gs (note.Groups writer brought) = AllByRecursion (λ (g : Group). Among g gs) brought
BringsOf gs other = Unit {0}

abbrev pub IsOf : List Group → Input → Type 0
IsOf gs (Hears m) = BringsOf gs m.note
IsOf gs Ticks = Unit {0}
IsOf gs (Publishes bound) = Unit {0}

-- A vector is a closed cut of the history: it is its own cover, so the events in it are closed where bounds order touches.
pub record IsClosedCut (entries : List Entry) (v : List VectorEntry) : Type 0 where
  pub own : IsOwnCover entries (stamp_of v)
  pub closed : BoundsOrderTouches entries → IsClosed (events entries) (of_vector v)

-- Each group came after every group of the history that is in its vector: what its writer had learnt up to it.
abbrev pub CameAfterCauses : List Entry → List Group → Type 0
CameAfterCauses entries [] = Unit {0}
CameAfterCauses entries (g ∷ gs) =
    ((h : Group) → Among h (groups entries) → has (of_vector (joined (learnt (of g.writer.0 gs)) g.learnt)) h ≡ true → Among h gs) × CameAfterCauses entries gs

-- Of a history, a replica's frontier is a closed cut, and has exactly the groups that were applied, each after its causes.
pub record FrontierIsCut (entries : List Entry) (p : Past) : Type 0 where
  pub cut : IsClosedCut entries p.order.frontier
  pub causes : CameAfterCauses entries p.applied
  pub exact : (g : Group) → Among g (groups entries) → (has (of_vector p.order.frontier) g ≡ true) ↔ Among g p.applied

abbrev pub FrontiersAreCuts : Type 0
FrontiersAreCuts =
    (entries : List Entry) → IsCausal entries → (number : ℕ) (inputs : List Input) → AllByRecursion (IsOf (groups entries)) inputs
    → (p : Past) × ((lives (start number) inputs).order ≡ p.order) × Holds p × FrontierIsCut entries p

-- So is the vector of each point.
abbrev pub PointsAreCuts : Type 0
PointsAreCuts =
    (entries : List Entry) → IsCausal entries → (number : ℕ) (inputs : List Input) → AllByRecursion (IsOf (groups entries)) inputs
    → (at : ℕ) (v : List VectorEntry) → point (lives (start number) inputs) at ≡ Some v → IsClosedCut entries v
