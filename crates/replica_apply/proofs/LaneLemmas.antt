-- A change of one writer's line.
use Rattle.std.specs.Prelude.{ℕ}
use Rattle.std.proofs.Common.{◌≡◌, ◌∙◌, Some, ap, cond, sym}
use Rattle.std.proofs.lemmas.Map.Steps.{set_value_same}
use Rattle.std.specs.declared.option.Option.{Option}
use Rattle.std.specs.BTreeMap as tree
use Rattle.std.specs.BTreeMap.{BTreeMap, is_at}
use Rattle.std.specs.Cmp.{nat_cmp_total}
use Rattle.std.specs.FinMap.{get, insert, from_entries, nat_cmp-IsAntisymmetric}
use Rattle.std.specs.Map.{set_value}
use Rattle.std.specs.Ordering.{nat_cmp}
use Rattle.tm_data.specs.Maps.{as_map, get-as_map, insert-as_map}
use Rattle.replica_model.specs.Order.{Lines, or_new}
use Rattle.replica_model.specs.declared.line.Line.{Line}

pub changed : (m n : BTreeMap ℕ Line) (k : ℕ) (w : Line) → ((q : ℕ) → tree.get nat_cmp n q ≡ cond (is_at (nat_cmp k) q) (Some w) (tree.get nat_cmp m q)) → as_map {R = nat_cmp} n ≡ insert (as_map m) k w
changed m n k w updates = insert-as_map nat_cmp_total nat_cmp-IsAntisymmetric m n k w updates

-- what a writer has, in the finite map
pub there : (m : BTreeMap ℕ Line) (lines : Lines) (k : ℕ) (o : Option Line) → as_map m ≡ lines → tree.get nat_cmp m k ≡ o → get lines k ≡ o
there m lines k o is had = ap (λ (n : Lines). get n k) (sym is) ∙ get-as_map {R = nat_cmp} nat_cmp_total m k ∙ had

pub line_there : (m : BTreeMap ℕ Line) (lines : Lines) (k : ℕ) (line : Line) → as_map m ≡ lines → tree.get nat_cmp m k ≡ Some line → or_new (get lines k) ≡ line
line_there m lines k line is had = ap or_new (there m lines k (Some line) is had)

pub unchanged : (m n : BTreeMap ℕ Line) (k : ℕ) (had w : Line) → tree.get nat_cmp m k ≡ Some had → n.entries ≡ set_value (is_at (nat_cmp k)) m.entries w → w ≡ had
    → as_map {R = nat_cmp} n ≡ as_map m
unchanged m n k had w is wrote same = ap (from_entries {R = nat_cmp}) (wrote ∙ ap (set_value (is_at (nat_cmp k)) m.entries) same ∙ set_value_same (is_at (nat_cmp k)) m.entries had is)
