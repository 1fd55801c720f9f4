-- The order in which groups of several logs are applied.
use Rattle.std.specs.Prelude.{ℕ, ◌+◌, ◌-◌, ◌^◌, Bool, true, false, cond, ◌&&◌, nat_eq, nat_le, nat_lt, List, [], ◌∷◌, ◌++◌, refl}
use Rattle.std.specs.Coded.{Coded, code_by, coded×, coded_ℕ, coded_list}
use Rattle.std.specs.Ordering.{nat_cmp}
use Rattle.std.specs.FinMap.{FinMap}
use Rattle.std.specs.FinMap as fin
use Rattle.std.specs.declared.option.Option.{Option}
use Rattle.std.specs.declared.option.Option.TheVariants.{None, Some}
use Rattle.tm_data.specs.declared.log.Group.{Group}
use Rattle.tm_data.specs.contracts.vector.VectorEntry as vector_entry
use Rattle.tm_data.specs.declared.vector.VectorEntry.{VectorEntry}
use Rattle.tm_data.specs.Vectors.{covers, entry, joined, raised, stamp_of}
use Rattle.replica_model.specs.contracts.line.Line as line_type
use Rattle.replica_model.specs.declared.line.Line.{Line}

-- By the writer's number: what was received of its log.
abbrev pub Lines : Type 0
Lines = FinMap nat_cmp Line

abbrev pub coded_lines : Coded Lines
coded_lines = fin.code coded_ℕ line_type.the_row.coded

-- What was received of each writer's log; and the frontier: of each writer the stamp of its last group that was applied.
pub record Order : Type 0 where
  pub lines : Lines
  pub frontier : List VectorEntry

abbrev pub coded_order : Coded Order
coded_order =
    code_by (Lines × List VectorEntry) (coded× coded_lines (coded_list vector_entry.the_row.coded)) (λ o. (o.lines, o.frontier)) (λ p. record { lines = p.0; frontier = p.1 })
    (λ _. refl)

-- Nothing was received.
abbrev pub nothing : Order
nothing = record { lines = fin.empty; frontier = [] }

abbrev pub new_line : Line
new_line = record { next = 1; waiting = []; learnt = [] }

abbrev pub or_new : Option Line → Line
or_new None = new_line
or_new (Some line) = line

abbrev pub line_of : Order → ℕ → Line
line_of o writer = or_new (fin.get o.lines writer)

abbrev pub with_line : Order → ℕ → Line → Order
with_line o writer line = record o { lines = fin.insert o.lines writer line }

-- ---- a group is received

-- No writer has the number 0, and no group the stamp 0.
abbrev pub is_logged : Group → Bool
is_logged g = nat_lt 0 g.writer.0 && nat_lt 0 g.stamp.0

-- It waits if it is its writer's next; any other is ignored. The greatest number of all is never taken.
abbrev pub is_next : Line → Group → Bool
is_next line g = nat_eq g.seq line.next && nat_lt g.seq (2 ^ 32 - 1) && is_logged g

abbrev pub offered_if : Order → Group → Line → Bool → Order
offered_if o g line true = with_line o g.writer.0 (record line { next = line.next + 1; waiting = line.waiting ++ g ∷ [] })
offered_if o g line false = o

abbrev pub offered : Order → Group → Order
offered o g = offered_if o g (line_of o g.writer.0) (is_next (line_of o g.writer.0) g)

-- ---- what a group depends on

-- What its writer had learnt of other writers up to it. It depends besides on the writer's groups before it, which are
-- applied before it in any case.
abbrev pub vector_of : Line → Group → List VectorEntry
vector_of line g = joined line.learnt g.learnt

-- The group may be applied: the frontier covers what it depends on.
abbrev pub is_covered : Order → Line → Group → Bool
is_covered o line g = covers o.frontier (vector_of line g)

-- ---- the next group

-- A line whose first waiting group may be applied, and that group.
abbrev pub ready_in : Order → Line → List Group → Option Group
ready_in o line [] = None
ready_in o line (g ∷ gs) = cond (is_covered o line g) (Some g) None

abbrev pub or_later : {X : Type 0} → Option X → Option X → Option X
or_later None later = later
or_later (Some x) later = Some x

-- The next group is that of the least writer whose next one may be applied.
abbrev pub ready : Order → List (ℕ × Line) → Option Group
ready o [] = None
ready o (e ∷ es) = or_later (ready_in o e.1 e.1.waiting) (ready o es)

abbrev pub next : Order → Option Group
next o = ready o (fin.entries o.lines)

-- The order after a group was applied.
abbrev pub without_first : List Group → List Group
without_first [] = []
without_first (g ∷ gs) = gs

abbrev pub applied : Order → Group → Order
applied o g =
    let line = line_of o g.writer.0 in
    record {
      lines = fin.insert o.lines g.writer.0 (record line { waiting = without_first line.waiting; learnt = vector_of line g });
      frontier = raised o.frontier (entry g.writer.0 g.stamp.0);
    }

abbrev pub after_next : Order → Option Group → Order
after_next o None = o
after_next o (Some g) = applied o g

-- ---- what is waited for

-- The first entry that isn't covered.
abbrev pub uncovered : List VectorEntry → List VectorEntry → Option VectorEntry
uncovered frontier [] = None
uncovered frontier (e ∷ es) = cond (nat_le e.stamp.0 (stamp_of frontier e.writer.0)) (uncovered frontier es) (Some e)

abbrev pub waits_in : Order → Line → List Group → Option VectorEntry
waits_in o line [] = None
waits_in o line (g ∷ gs) = uncovered o.frontier (vector_of line g)

abbrev pub waits_among : Order → List (ℕ × Line) → Option VectorEntry
waits_among o [] = None
waits_among o (e ∷ es) = or_later (waits_in o e.1 e.1.waiting) (waits_among o es)

-- Of the least writer whose next group is there and may not be applied, the first entry that isn't covered.
abbrev pub waits : Order → Option VectorEntry
waits o = waits_among o (fin.entries o.lines)
