-- Words of this crate's own calls.
use Rattle.std.specs.Prelude.{◌≡◌, ◌≤◌, ℕ, ◌+◌, max, min, List, [], ◌∷◌, ◌++◌}
use Rattle.std.specs.List.{AllByRecursion}
use Rattle.std.specs.FinMap as fin
use Rattle.std.specs.declared.option.Option.{Option}
use Rattle.std.specs.declared.option.Option.TheVariants.{None, Some}
use Rattle.tm_data.specs.declared.log.Group.{Group}
use Rattle.tm_data.specs.declared.transaction.Stamp.{Stamp}
use Rattle.tm_data.specs.declared.transaction.Writer.{Writer}
use Rattle.tm_data.specs.declared.vector.VectorEntry.{VectorEntry}
use Rattle.tm_data.specs.Vectors.{entry, stamp_of}
use Rattle.replica_model.specs.Order.{Lines, Order, vector_of}
use Rattle.replica_model.specs.declared.line.Line.{Line}

-- An order of which only the frontier is looked at.
abbrev pub at_frontier : List VectorEntry → Order
at_frontier frontier = record { lines = fin.empty; frontier = frontier }

abbrev pub first_of : List Group → Option Group
first_of [] = None
first_of (g ∷ gs) = Some g

abbrev pub first_in : Option Line → Option Group
first_in None = None
first_in (Some line) = first_of line.waiting

-- One more group waits.
abbrev pub with_waiting : Line → Group → Line
with_waiting line g = record line { next = line.next + 1; waiting = line.waiting ++ g ∷ [] }

-- The first of these groups, which wait, is applied.
abbrev pub without_next : Line → List Group → Line
without_next line [] = line
without_next line (g ∷ gs) = record line { waiting = gs; learnt = vector_of line g }

abbrev pub received : Lines → Group → Line → Lines
received lines g line = fin.insert lines g.writer.0 (with_waiting line g)

abbrev pub popped : Lines → ℕ → Option Line → Lines
popped lines writer None = lines
popped lines writer (Some line) = fin.insert lines writer (without_next line line.waiting)

-- A group that waits in a writer's line is one that it could log.
abbrev pub IsOwn : ℕ → Group → Type 0
IsOwn writer g = (g.writer.0 ≡ writer) × (1 ≤ g.writer.0) × (1 ≤ g.stamp.0)

abbrev pub AreOwn : List (ℕ × Line) → Type 0
AreOwn es = AllByRecursion (λ (e : ℕ × Line). AllByRecursion (IsOwn e.0) e.1.waiting) es

abbrev pub pair_of : VectorEntry → Writer × Stamp
pair_of e = (e.writer, e.stamp)

-- ---- the first entry of a join that isn't covered, from those of its two vectors

abbrev pub writer_in : Option VectorEntry → Option Writer
writer_in None = None
writer_in (Some e) = Some e.writer

abbrev pub lesser_of : Option Writer → Option Writer → Option Writer
lesser_of None other = other
lesser_of (Some v) None = Some v
lesser_of (Some v) (Some w) = Some (record { 0 = min v.0 w.0 })

-- what the join has for that writer
abbrev pub joint : List VectorEntry → List VectorEntry → Option Writer → Option VectorEntry
joint a b None = None
joint a b (Some w) = Some (entry w.0 (max (stamp_of a w.0) (stamp_of b w.0)))
