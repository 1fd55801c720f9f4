-- The frontier and the points of a replica as cuts of a history.
use Rattle.std.specs.Prelude.{List, [], ◌∷◌, ◌++◌, ℕ, zero, suc, ◌-◌, Bool, true, false, cond, nat_eq, nat_lt, length, slice_get}
use Rattle.std.proofs.Common.{◌≡◌, ◌∙◌, refl, sym, ap, subst}
use Rattle.std.specs.List.{AllByRecursion}
use Rattle.std.specs.declared.option.Option.{Option}
use Rattle.std.specs.declared.option.Option.TheVariants.{None, Some}
use Rattle.tm_data.specs.declared.log.Group.{Group}
use Rattle.tm_data.specs.declared.vector.VectorEntry.{VectorEntry}
use Rattle.tm_data.specs.Vectors.{stamp_of}
use Rattle.tm_base.specs.declared.message.Note.{Note}
use Rattle.tm_base.specs.declared.message.Note.TheVariants as note
use Rattle.page_model.specs.Lists.{Among}
use Rattle.history_model.specs.History.{Entry, groups}
use Rattle.history_model.specs.Bounds.{IsOwnCover}
use Rattle.history_laws.specs.Statements.{VectorCutsAreClosed}
use Rattle.replica_model.specs.Order.{Order, uncovered}
use Rattle.replica_model.specs.State.{State, start}
use Rattle.replica_model.specs.Reads.{publish_past, publishes}
use Rattle.replica_laws.specs.Runs.{Holds, Past, begun, run}
use Rattle.replica_laws.specs.Lives.{Hears, Input, Publishes, Ticks, after_input, lives}
use Rattle.replica_laws.specs.ClosedCuts.{BringsOf, FrontiersAreCuts, IsCausal, IsClosedCut, IsOf, PointsAreCuts}
use Rattle.replica_laws.proofs.LeastLemmas.{none_not_some, same_some}
use Rattle.replica_laws.proofs.LifeLemmas.{Brings, BringsIn, Leads, deeds, input_leads, run_order, step_points}
use Rattle.replica_laws.proofs.RunLemmas.{begun_holds, run_holds}
use Rattle.replica_laws.proofs.CutLemmas.{Known, run_known}
use Rattle.replica_laws.proofs.OwnLemmas.{came_after, exact, frontier_own, run_came}

abbrev Own : List Entry → List VectorEntry → Type 0
Own entries v = IsOwnCover entries (stamp_of v)

-- Its order is that of a run over groups of the history, and each of its points is its own cover.
record Alive (entries : List Entry) (s : State) : Type 0 where
  past : Past
  same : s.order ≡ past.order
  holds : Holds past
  known : Known (groups entries) past
  points : AllByRecursion (Own entries) s.points

-- ---- an input

note_brings : (gs : List Group) (n : Note) → BringsOf gs n → Brings (λ (g : Group). Among g gs) n
note_brings gs (note.Groups writer brought) h = h
note_brings gs n h = tt

brings_of : (gs : List Group) (i : Input) → IsOf gs i → BringsIn (λ (g : Group). Among g gs) i
brings_of gs (Hears m) h = note_brings gs m.note h
brings_of gs Ticks h = tt
brings_of gs (Publishes bound) h = tt

push_own : (entries : List Entry) (points : List (List VectorEntry)) (v : List VectorEntry) → AllByRecursion (Own entries) points → Own entries v → AllByRecursion (Own entries) (points ++ v ∷ [])
push_own entries [] v h own = (own, tt)
push_own entries (x ∷ points) v h own = (h.0, push_own entries points v h.1 own)

publish_points : (entries : List Entry) (s : State) (o : Option VectorEntry) → AllByRecursion (Own entries) s.points → Own entries s.order.frontier
    → AllByRecursion (Own entries) (publish_past s o).0.points
publish_points entries s (Some e) h own = h
publish_points entries s None h own = by (nat_lt (length s.points) 65536)
  where
    by : (b : Bool) → AllByRecursion (Own entries) (publishes s b).0.points
    by true = push_own entries s.points s.order.frontier h own
    by false = h

input_points : (entries : List Entry) → IsCausal entries → (s : State) (i : Input) → Alive entries s → AllByRecursion (Own entries) (after_input s i).points
input_points entries causal s (Hears m) a = subst (AllByRecursion (Own entries)) (sym (step_points s m)) a.points
input_points entries causal s Ticks a = a.points
input_points entries causal s (Publishes bound) a =
    publish_points entries s (uncovered s.order.frontier bound) a.points
    (subst (λ (o : Order). Own entries o.frontier) (sym a.same) (frontier_own entries causal a.past a.holds a.known))

goes_on : (entries : List Entry) → IsCausal entries → (s : State) (i : Input) → IsOf (groups entries) i → Alive entries s → Alive entries (after_input s i)
goes_on entries causal s i of_it a =
    let its : Leads (λ (g : Group). Among g (groups entries)) s.order (after_input s i).order =
    input_leads (λ (g : Group). Among g (groups entries)) s i (brings_of (groups entries) i of_it) in
    record {
      past = run a.past its.way;
      same = sym its.comes ∙ ap (λ (o : Order). deeds o its.way) a.same ∙ sym (run_order its.way a.past);
      holds = run_holds its.way a.past a.holds;
      known = run_known (groups entries) its.way a.past a.holds a.known its.has;
      points = input_points entries causal s i a;
    }

lives_on : (entries : List Entry) → IsCausal entries → (s : State) (inputs : List Input) → AllByRecursion (IsOf (groups entries)) inputs → Alive entries s → Alive entries (lives s inputs)
lives_on entries causal s [] of_it a = a
lives_on entries causal s (i ∷ inputs) of_it a = lives_on entries causal (after_input s i) inputs of_it.1 (goes_on entries causal s i of_it.0 a)

begins : (entries : List Entry) (number : ℕ) → Alive entries (start number)
begins entries number = record { past = begun; same = refl; holds = begun_holds; known = record { received = tt; applied = tt }; points = tt }

-- ---- as cuts

cut_of : VectorCutsAreClosed → (entries : List Entry) (v : List VectorEntry) → Own entries v → IsClosedCut entries v
cut_of closed entries v own = record { own = own; closed = λ touches. closed entries touches (stamp_of v) own }

pub frontiers_are_cuts : VectorCutsAreClosed → FrontiersAreCuts
frontiers_are_cuts closed entries causal number inputs of_it =
    let a = lives_on entries causal (start number) inputs of_it (begins entries number) in
    (a.past, a.same, a.holds, record { cut = cut_of closed entries a.past.order.frontier (frontier_own entries causal a.past a.holds a.known); causes = came_after entries causal a.past.applied (run_came entries a.past a.holds a.known); exact = exact entries causal a.past a.holds a.known })

got : {X : Type 0} (P : X → Type 0) (xs : List X) (i : ℕ) (x : X) → AllByRecursion P xs → slice_get xs i ≡ Some x → P x
got P [] i x all is = absurd (none_not_some x is)
got P (y ∷ ys) zero x all is = subst P (same_some y x is) all.0
got P (y ∷ ys) (suc i) x all is = got P ys i x all.1 is

point_own : (entries : List Entry) (points : List (List VectorEntry)) (at : ℕ) (v : List VectorEntry) → AllByRecursion (Own entries) points
    → (b : Bool) → cond b None (slice_get points (at - 1)) ≡ Some v → Own entries v
point_own entries points at v all true is = absurd (none_not_some v is)
point_own entries points at v all false is = got (Own entries) points (at - 1) v all is

pub points_are_cuts : VectorCutsAreClosed → PointsAreCuts
points_are_cuts closed entries causal number inputs of_it at v is =
    let a = lives_on entries causal (start number) inputs of_it (begins entries number) in
    cut_of closed entries v (point_own entries (lives (start number) inputs).points at v a.points (nat_eq at 0) is)
