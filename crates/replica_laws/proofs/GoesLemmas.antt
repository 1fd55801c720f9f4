-- A replica's order from one moment to the next.
use Rattle.std.specs.Prelude.{List, [], ◌∷◌, ◌++◌, ℕ, Bool, true, false, nat_eq, nat_lt, length}
use Rattle.std.proofs.Common.{◌≡◌, ◌≤◌, ◌∙◌, refl, sym, ap, subst, arith, append_assoc}
use Rattle.std.proofs.lemmas.List.{append-nil}
use Rattle.std.specs.List.{AllByRecursion}
use Rattle.std.specs.declared.option.Option.{Option}
use Rattle.std.specs.declared.option.Option.TheVariants.{None, Some}
use Rattle.tm_data.specs.declared.log.Group.{Group}
use Rattle.tm_data.specs.declared.vector.VectorEntry.{VectorEntry}
use Rattle.tm_data.specs.Vectors.{Covers, IsVector, entry, raised, stamp_of}
use Rattle.tm_data.proofs.VectorLemmas.{raised_ascends, raised_stamp}
use Rattle.replica_model.specs.Order.{Order, after_next, is_next, line_of, next, offered_if, uncovered}
use Rattle.replica_model.specs.State.{State, start}
use Rattle.replica_model.specs.Reads.{publish_past, publishes}
use Rattle.replica_laws.specs.Runs.{Deed, Holds, Next, Offer, Past, begun, done, if_any, if_taken, of, run, vector}
use Rattle.replica_laws.specs.Lives.{Hears, Input, IsLater, Moments, OrdersGoOn, Publishes, Ticks, after_input}
use Rattle.replica_laws.proofs.RunLemmas.{all_onto, begun_holds, deed_holds, next_is, run_holds}
use Rattle.replica_laws.proofs.LifeLemmas.{Any, deeds, input_any, input_leads, run_order, step_points}
use Rattle.replica_laws.proofs.CutLemmas.{all_of, head_of, last_two, more_any, positive}

-- ---- groups that a writer could log

abbrev Logged : Group → Type 0
Logged g = (1 ≤ g.writer.0) × (1 ≤ g.stamp.0)

record AreLogged (p : Past) : Type 0 where
  received : AllByRecursion Logged p.received
  applied : AllByRecursion Logged p.applied

offered_logged : (p : Past) (g : Group) → AreLogged p → AreLogged (done p (Offer g))
offered_logged p g k = by (is_next (line_of p.order g.writer.0) g) refl
  where
    by : (b : Bool) → is_next (line_of p.order g.writer.0) g ≡ b
        → AreLogged (record { order = offered_if p.order g (line_of p.order g.writer.0) b; received = if_taken b g p.received; applied = p.applied })
    by true is =
        let both = last_two (nat_eq g.seq (line_of p.order g.writer.0).next) _ (nat_lt 0 g.writer.0) (nat_lt 0 g.stamp.0) is in
        record { received = ((positive g.writer.0 both.0, positive g.stamp.0 both.1), k.received); applied = k.applied }
    by false is = record { received = k.received; applied = k.applied }

waiting_logged : (p : Past) → Holds p → AreLogged p → (w : ℕ) → AllByRecursion Logged (line_of p.order w).waiting
waiting_logged p h k w =
    (all_onto Logged (of w p.applied) (line_of p.order w).waiting
    (subst (AllByRecursion Logged) (sym (h.lines w).front) (all_of Logged w p.received k.received))).1

next_logged : (p : Past) → Holds p → AreLogged p → AreLogged (done p Next)
next_logged p h k = by (next p.order) refl
  where
    by : (n : Option Group) → next p.order ≡ n → AreLogged (record { order = after_next p.order n; received = p.received; applied = if_any n p.applied })
    by None is = record { received = k.received; applied = k.applied }
    by (Some g) is =
        let its = next_is p g h is in
        record {
          received = k.received;
          applied = (head_of Logged (line_of p.order g.writer.0).waiting its.rest g its.first (waiting_logged p h k g.writer.0), k.applied);
        }

deed_logged : (p : Past) (d : Deed) → Holds p → AreLogged p → AreLogged (done p d)
deed_logged p (Offer g) h k = offered_logged p g k
deed_logged p Next h k = next_logged p h k

run_logged : (ds : List Deed) (p : Past) → Holds p → AreLogged p → AreLogged (run p ds)
run_logged [] p h k = k
run_logged (d ∷ ds) p h k = run_logged ds (done p d) (deed_holds p d h) (deed_logged p d h k)

vector_ascends : (gs : List Group) → AllByRecursion Logged gs → IsVector (vector gs)
vector_ascends [] h = tt
vector_ascends (g ∷ gs) h = raised_ascends 0 (vector gs) (entry g.writer.0 g.stamp.0) (vector_ascends gs h.1) h.0.0 h.0.1

-- ---- more is received and applied

record Grows (p q : Past) : Type 0 where
  received : IsLater p.received q.received
  applied : IsLater p.applied q.applied
  frontier : Covers q.order.frontier p.order.frontier

later : (a b c : List Group) → IsLater a b → IsLater b c → IsLater a c
later a b c f g = (g.0 ++ f.0, g.1 ∙ ap (λ (gs : List Group). g.0 ++ gs) f.1 ∙ sym (append_assoc g.0 f.0 a))

covers_itself : (v : List VectorEntry) → Covers v v
covers_itself v w = omega arith

covers_on : (a b c : List VectorEntry) → Covers b a → Covers c b → Covers c a
covers_on a b c f g w = omega (arith, f w, g w)

grows_on : (p q r : Past) → Grows p q → Grows q r → Grows p r
grows_on p q r f g = record {
  received = later p.received q.received r.received f.received g.received;
  applied = later p.applied q.applied r.applied f.applied g.applied;
  frontier = covers_on p.order.frontier q.order.frontier r.order.frontier f.frontier g.frontier;
}

offer_grows : (p : Past) (g : Group) → Grows p (done p (Offer g))
offer_grows p g = by (is_next (line_of p.order g.writer.0) g)
  where
    by : (b : Bool) → Grows p (record { order = offered_if p.order g (line_of p.order g.writer.0) b; received = if_taken b g p.received; applied = p.applied })
    by true = record { received = (g ∷ [], refl); applied = ([], refl); frontier = covers_itself p.order.frontier }
    by false = record { received = ([], refl); applied = ([], refl); frontier = covers_itself p.order.frontier }

raises_over : (v : List VectorEntry) (g : Group) → IsVector v → Covers (raised v (entry g.writer.0 g.stamp.0)) v
raises_over v g is w =
    more_any (nat_eq w g.writer.0) (stamp_of v w) g.stamp.0 (stamp_of (raised v (entry g.writer.0 g.stamp.0)) w) (raised_stamp 0 v (entry g.writer.0 g.stamp.0) w is)

next_grows : (p : Past) → Holds p → AreLogged p → Grows p (done p Next)
next_grows p h k = by (next p.order)
  where
    ascends : IsVector p.order.frontier
    ascends = subst IsVector (sym h.frontier) (vector_ascends p.applied k.applied)

    by : (n : Option Group) → Grows p (record { order = after_next p.order n; received = p.received; applied = if_any n p.applied })
    by None = record { received = ([], refl); applied = ([], refl); frontier = covers_itself p.order.frontier }
    by (Some g) = record { received = ([], refl); applied = (g ∷ [], refl); frontier = raises_over p.order.frontier g ascends }

deed_grows : (p : Past) (d : Deed) → Holds p → AreLogged p → Grows p (done p d)
deed_grows p (Offer g) h k = offer_grows p g
deed_grows p Next h k = next_grows p h k

run_grows : (ds : List Deed) (p : Past) → Holds p → AreLogged p → Grows p (run p ds)
run_grows [] p h k = record { received = ([], refl); applied = ([], refl); frontier = covers_itself p.order.frontier }
run_grows (d ∷ ds) p h k =
    grows_on p (done p d) (run (done p d) ds) (deed_grows p d h k) (run_grows ds (done p d) (deed_holds p d h) (deed_logged p d h k))

-- ---- points

abbrev PointsGoOn : List (List VectorEntry) → List (List VectorEntry) → Type 0
PointsGoOn old new = (more : List (List VectorEntry)) × (new ≡ old ++ more)

published_on : (s : State) (o : Option VectorEntry) → PointsGoOn s.points (publish_past s o).0.points
published_on s (Some e) = ([], sym (append-nil s.points))
published_on s None = by (nat_lt (length s.points) 65536)
  where
    by : (b : Bool) → PointsGoOn s.points (publishes s b).0.points
    by true = (s.order.frontier ∷ [], refl)
    by false = ([], sym (append-nil s.points))

points_on : (s : State) (i : Input) → PointsGoOn s.points (after_input s i).points
points_on s (Hears m) = ([], step_points s m ∙ sym (append-nil s.points))
points_on s Ticks = ([], sym (append-nil s.points))
points_on s (Publishes bound) = published_on s (uncovered s.order.frontier bound)

-- ---- every moment

moments : (inputs : List Input) (s : State) (p : Past) → s.order ≡ p.order → Holds p → AreLogged p → Moments s p inputs
moments [] s p same h k = (same, h)
moments (i ∷ inputs) s p same h k =
    let its = input_leads Any s i (input_any i) in
    let q : Past = run p its.way in
    let grows : Grows p q = run_grows its.way p h k in
    let comes : (after_input s i).order ≡ q.order = sym its.comes ∙ ap (λ (o : Order). deeds o its.way) same ∙ sym (run_order its.way p) in (
      same,
      h,
      (
        q,
        record { received = grows.received; applied = grows.applied; frontier = grows.frontier; points = points_on s i },
        moments inputs (after_input s i) q comes (run_holds its.way p h) (run_logged its.way p h k),
      ),
    )

pub orders_go_on : OrdersGoOn
orders_go_on number inputs = moments inputs (start number) begun refl begun_holds (record { received = tt; applied = tt })
