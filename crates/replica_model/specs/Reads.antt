-- Points, and what is answered at them.
use Rattle.std.specs.Prelude.{ℕ, zero, suc, ◌+◌, ◌-◌, Bool, true, false, cond, ◌&&◌, nat_eq, nat_le, nat_lt, List, [], ◌∷◌, ◌++◌, length, take, Result, Ok, Err}
use Rattle.std.specs.FinMap as fin
use Rattle.std.specs.declared.option.Option.{Option}
use Rattle.std.specs.declared.option.Option.TheVariants.{None, Some}
use Rattle.tm_data.specs.declared.image.Body.{Body}
use Rattle.tm_data.specs.declared.image.Body.TheVariants.{Blank, Leaf, Inner}
use Rattle.tm_data.specs.declared.image.Image.{Image}
use Rattle.tm_data.specs.declared.row.Row.{Row}
use Rattle.tm_data.specs.declared.row.Before.{Before}
use Rattle.tm_data.specs.declared.row.Before.TheVariants.{Same, Was}
use Rattle.tm_data.specs.declared.vector.VectorEntry.{VectorEntry}
use Rattle.tm_data.specs.Vectors.{stamp_of}
use Rattle.key_fences.specs.Fences.{is_below, is_from, key_less}
use Rattle.page_model.specs.Tree.{Place, child_for, children, is_at, level_of, root}
use Rattle.page_model.specs.Versions.{Fault, links_of, version_at_cut}
use Rattle.page_model.specs.Versions as fault
use Rattle.replica_model.specs.declared.line.EndMark.{EndMark}
use Rattle.replica_model.specs.Order.{uncovered}
use Rattle.replica_model.specs.State.{State, point}

-- ---- publishing

-- Why no point is published: this entry of the bound isn't applied yet, or there are 65,536 points.
pub data Unpublished : Type 0 where
  Waits : VectorEntry → Unpublished
  Full : Unpublished

-- The point is all that is applied; its number is the next one, from 1.
abbrev pub publishes : State → Bool → State × Result ℕ Unpublished
publishes s true = (record s { points = s.points ++ s.order.frontier ∷ [] }, Ok (length s.points + 1))
publishes s false = (s, Err Full)

abbrev pub publish_past : State → Option VectorEntry → State × Result ℕ Unpublished
publish_past s (Some e) = (s, Err (Waits e))
publish_past s None = publishes s (nat_lt (length s.points) 65536)

abbrev pub publish : State → List VectorEntry → State × Result ℕ Unpublished
publish s bound = publish_past s (uncovered s.order.frontier bound)

-- ---- why a read is refused

pub data Refused : Type 0 where
  NoPoint : Refused
  NoTable : Refused
  -- a page of the walk can't be used: at this stamp a record is missing or doesn't suit, or the image of this stamp isn't
  -- one that the walk expects
  Unfit : ℕ → Refused

-- ---- pages at a cut

abbrev pub stamp_in : Fault → ℕ
stamp_in (fault.Missing stamp) = stamp
stamp_in (fault.Unfit stamp) = stamp

-- The page at a place, at a level if that is given: of the table, with the fences of the place.
abbrev pub is_expected : ℕ → Place → Option ℕ → Body → Bool
is_expected table place None body = is_at table place body
is_expected table place (Some level) body = is_at table place body && nat_eq (level_of body + 1) level

abbrev pub usable_image : ℕ → Place → Option ℕ → Result Image Fault → Result Body Refused
usable_image table place above (Err why) = Err (Unfit (stamp_in why))
usable_image table place above (Ok image) = cond (is_expected table place above image.body) (Ok image.body) (Err (Unfit image.stamp.0))

abbrev pub body_at : State → List VectorEntry → ℕ → Place → Option ℕ → Result Body Refused
body_at s cut table place above = usable_image table place above (version_at_cut place.page (links_of s.pages place.page.0) cut)

-- ---- the value of a row at a cut

-- The transaction's end is in the cut.
abbrev pub has_end : List VectorEntry → Option EndMark → Bool
has_end cut None = false
has_end cut (Some e) = nat_le e.stamp.0 (stamp_of cut e.writer.0)

abbrev pub unless_ended : Option (List ℕ) → Before → Bool → Option (List ℕ)
unless_ended now before true = now
unless_ended now Same false = now
unless_ended now (Was value) false = value

-- It is what the transaction wrote, once that has ended there; else what was there before.
abbrev pub value_at : State → List VectorEntry → Row → Option (List ℕ)
value_at s cut row = unless_ended row.now row.before (has_end cut (fin.get s.ends row.txn))

-- ---- the walk

-- A key with its value.
abbrev pub Pair : Type 0
Pair = List ℕ × List ℕ

abbrev pub paired : List ℕ → Option (List ℕ) → List Pair → List Pair
paired key None pairs = pairs
paired key (Some value) pairs = (key, value) ∷ pairs

-- The pairs of some rows, from a key on.
abbrev pub pairs_in : State → List VectorEntry → Option (List ℕ) → List Row → List Pair
pairs_in s cut from [] = []
pairs_in s cut from (r ∷ rs) = cond (is_from from r.key) (paired r.key (value_at s cut r) (pairs_in s cut from rs)) (pairs_in s cut from rs)

-- The places of a page's children that may have keys from this one on.
abbrev pub reach : Option (List ℕ) → Option (List ℕ) → Bool
reach None high = true
reach (Some key) high = is_below high key

abbrev pub from_on : Option (List ℕ) → List Place → List Place
from_on from [] = []
from_on from (p ∷ ps) = cond (reach from p.high) (p ∷ ps) (from_on from ps)

-- After some pairs the walk goes on with the next place, unless it has as many as are wanted.
abbrev pub after : List Pair → Result (List Pair) Refused → Result (List Pair) Refused
after pairs (Err why) = Err why
after pairs (Ok more) = Ok (pairs ++ more)

abbrev pub gathers : ℕ → Result (List Pair) Refused → (ℕ → Result (List Pair) Refused) → Result (List Pair) Refused
gathers count (Err why) further = Err why
gathers count (Ok pairs) further = cond (nat_le count (length pairs)) (Ok (take count pairs)) (after pairs (further (count - length pairs)))

-- The first so many pairs of a page, from a key on: a leaf's own, or those of an inner page's children, one after
-- another. Below level 0 nothing is.
abbrev pub walk_places : (Place → ℕ → Result (List Pair) Refused) → List Place → ℕ → Result (List Pair) Refused
walk_places walk [] count = Ok []
walk_places walk (p ∷ ps) count = gathers count (walk p count) (walk_places walk ps)

abbrev pub walk_body : State → List VectorEntry → ℕ → Option (List ℕ) → ℕ → Result Body Refused → ℕ → Result (List Pair) Refused
walk_body s cut table from fuel (Err why) count = Err why
walk_body s cut table from fuel (Ok Blank) count = Ok []
walk_body s cut table from fuel (Ok (Leaf of low high rows)) count = Ok (take count (pairs_in s cut from rows))
walk_body s cut table from zero (Ok (Inner of level low high first entries)) count = Ok []
walk_body s cut table from (suc n) (Ok (Inner of level low high first entries)) count =
    walk_places (λ place. walk_body s cut table from n (body_at s cut table place (Some level)))
    (from_on from (children (Inner of level low high first entries))) count

-- A tree has at most six levels.
abbrev pub walk : State → List VectorEntry → ℕ → Option (List ℕ) → ℕ → Result (List Pair) Refused
walk s cut table from count = walk_body s cut table from 5 (body_at s cut table (root table) None) count

-- ---- what is asked

abbrev pub is_table : ℕ → Bool
is_table table = nat_le 1 table && nat_le table 1024

abbrev pub at_table : {X : Type 0} → Bool → Result X Refused → Result X Refused
at_table true found = found
at_table false found = Err NoTable

abbrev pub at_point : {X : Type 0} → Option (List VectorEntry) → ℕ → (List VectorEntry → Result X Refused) → Result X Refused
at_point None table found = Err NoPoint
at_point (Some cut) table found = at_table (is_table table) (found cut)

-- The first so many pairs of a table at a point, from a key on, ascending.
abbrev pub scan : State → ℕ → ℕ → Option (List ℕ) → ℕ → Result (List Pair) Refused
scan s number table from count = at_point (point s number) table (λ cut. walk s cut table from count)

-- The value of a key at a point: its leaf has it alone.
abbrev pub row_value : State → List VectorEntry → List ℕ → List Row → Option (List ℕ)
row_value s cut key [] = None
row_value s cut key (r ∷ rs) = cond (key_less r.key key) (row_value s cut key rs) (cond (key_less key r.key) None (value_at s cut r))

abbrev pub find_in : State → List VectorEntry → ℕ → List ℕ → ℕ → Result Body Refused → Result (Option (List ℕ)) Refused
find_in s cut table key fuel (Err why) = Err why
find_in s cut table key fuel (Ok Blank) = Ok None
find_in s cut table key fuel (Ok (Leaf of low high rows)) = Ok (row_value s cut key rows)
find_in s cut table key zero (Ok (Inner of level low high first entries)) = Ok None
find_in s cut table key (suc n) (Ok (Inner of level low high first entries)) =
    find_in s cut table key n (body_at s cut table (child_for key low high first entries) (Some level))

abbrev pub get : State → ℕ → ℕ → List ℕ → Result (Option (List ℕ)) Refused
get s number table key = at_point (point s number) table (λ cut. find_in s cut table key 5 (body_at s cut table (root table) None))
