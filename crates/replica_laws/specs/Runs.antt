-- What is done with an order of groups, one thing after another, and what holds of it then.
use Rattle.std.specs.Prelude.{◌≡◌, ℕ, ◌+◌, Bool, true, false, nat_eq, List, [], ◌∷◌, length, filter}
use Rattle.std.specs.declared.option.Option.{Option}
use Rattle.std.specs.declared.option.Option.TheVariants.{None, Some}
use Rattle.tm_data.specs.declared.log.Group.{Group}
use Rattle.tm_data.specs.declared.vector.VectorEntry.{VectorEntry}
use Rattle.tm_data.specs.Vectors.{Covers, entry, joined, raised}
use Rattle.replica_model.specs.Order.{Order, after_next, is_next, line_of, next, nothing, offered}
use Rattle.replica_model.specs.declared.line.Line.{Line}

-- A group is offered, or the next one is applied.
pub data Deed : Type 0 where
  Offer : Group → Deed
  Next : Deed

-- An order, the groups that it received and those that it applied, the last one first.
pub record Past : Type 0 where
  pub order : Order
  pub received : List Group
  pub applied : List Group

abbrev pub begun : Past
begun = record { order = nothing; received = []; applied = [] }

abbrev pub if_taken : Bool → Group → List Group → List Group
if_taken true g gs = g ∷ gs
if_taken false g gs = gs

abbrev pub if_any : Option Group → List Group → List Group
if_any None gs = gs
if_any (Some g) gs = g ∷ gs

-- A group is received exactly where it is its writer's next.
abbrev pub done : Past → Deed → Past
done p (Offer g) = record {
  order = offered p.order g;
  received = if_taken (is_next (line_of p.order g.writer.0) g) g p.received;
  applied = p.applied;
}
done p Next = record {
  order = after_next p.order (next p.order);
  received = p.received;
  applied = if_any (next p.order) p.applied;
}

abbrev pub run : Past → List Deed → Past
run p [] = p
run p (d ∷ ds) = run (done p d) ds

-- ---- what was applied

-- The groups of a writer.
abbrev pub of : ℕ → List Group → List Group
of writer gs = filter (λ (g : Group). nat_eq g.writer.0 writer) gs

-- The vector of some groups, the last one first: of each writer the stamp of its last group.
abbrev pub vector : List Group → List VectorEntry
vector [] = []
vector (g ∷ gs) = raised (vector gs) (entry g.writer.0 g.stamp.0)

-- What a writer's groups had learnt of others.
abbrev pub learnt : List Group → List VectorEntry
learnt [] = []
learnt (g ∷ gs) = joined (learnt gs) g.learnt

-- Each group came after what its vector names: the vector of the groups before it covers what its writer had learnt up to it.
abbrev pub CausesCameFirst : List Group → Type 0
CausesCameFirst [] = Unit {0}
CausesCameFirst (g ∷ gs) = Covers (vector gs) (joined (learnt (of g.writer.0 gs)) g.learnt) × CausesCameFirst gs

-- ---- what was received

-- A writer's groups are numbered from 1 on, without a gap.
abbrev pub AreNumbered : List Group → Type 0
AreNumbered [] = Unit {0}
AreNumbered (g ∷ gs) = (g.seq ≡ length gs + 1) × AreNumbered gs

-- The last of these groups stands on top.
abbrev pub onto : List Group → List Group → List Group
onto gs [] = gs
onto gs (x ∷ xs) = onto (x ∷ gs) xs

-- What an order keeps of a writer, of whom these groups were applied and these received. What was applied is a front of what
-- was received, and the rest waits in order.
pub record IsLine (applied received : List Group) (line : Line) : Type 0 where
  pub front : onto applied line.waiting ≡ received
  pub numbers : AreNumbered received
  pub next : line.next ≡ length received + 1
  pub heard : line.learnt ≡ learnt applied

-- What holds after every list of deeds.
pub record Holds (p : Past) : Type 0 where
  pub frontier : p.order.frontier ≡ vector p.applied
  pub lines : (writer : ℕ) → IsLine (of writer p.applied) (of writer p.received) (line_of p.order writer)
  pub causes : CausesCameFirst p.applied

abbrev pub EveryRunHolds : Type 0
EveryRunHolds = (ds : List Deed) → Holds (run begun ds)
