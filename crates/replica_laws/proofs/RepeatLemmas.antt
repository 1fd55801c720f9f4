-- What isn't its writer's next changes nothing; and what is waited for.
use Rattle.std.specs.Prelude.{List, [], ◌∷◌, ◌++◌, ℕ, ◌+◌, ◌-◌, ◌^◌, Bool, true, false, cond, ◌&&◌, nat_eq, nat_le, nat_lt, length}
use Rattle.std.proofs.Common.{◌≡◌, ◌≢◌, ◌<◌, ◌≤◌, ◌⊎◌, ◌∙◌, inl, inr, refl, sym, ap, subst, arith}
use Rattle.std.proofs.lemmas.Bool.Decides.{nat_tests}
use Rattle.std.specs.FinMap as fin
use Rattle.std.specs.declared.option.Option.{Option}
use Rattle.std.specs.declared.option.Option.TheVariants.{None, Some}
use Rattle.tm_data.specs.declared.log.Group.{Group}
use Rattle.tm_data.specs.declared.vector.VectorEntry.{VectorEntry}
use Rattle.tm_data.specs.Vectors.{stamp_of}
use Rattle.page_model.specs.Lists.{Among}
use Rattle.replica_model.specs.Order.{Order, is_logged, line_of, offered_if, or_later, or_new, uncovered, vector_of, waits, waits_among, waits_in}
use Rattle.replica_model.specs.declared.line.Line.{Line}
use Rattle.replica_laws.specs.Runs.{AreNumbered, begun, of, run}
use Rattle.replica_laws.specs.Lives.{IsFirstUncovered, OthersChangeNothing, RepeatsChangeNothing, WaitsAreOfTheLeast, WaitsAt, WaitsTell}
use Rattle.replica_laws.proofs.LeastLemmas.{among, first_of, none_not_some, none_of, same_some}
use Rattle.replica_laws.proofs.RunLemmas.{every_run, there_is}

-- ---- what isn't next

unequal : (m n : ℕ) → m ≢ n → nat_eq m n ≡ false
unequal m n h = by (nat_eq m n) refl
  where
    by : (b : Bool) → nat_eq m n ≡ b → b ≡ false
    by true is = absurd (h (grind (arith, nat_tests)))
    by false is = refl

pub others : OthersChangeNothing
others o g h =
    ap (λ (b : Bool). offered_if o g (line_of o g.writer.0) (b && nat_lt g.seq (2 ^ 32 - 1) && is_logged g)) (unequal g.seq (line_of o g.writer.0).next h)

-- a group that was received has a lower number
in_of : (g : Group) (gs : List Group) → Among g gs → Among g (of g.writer.0 gs)
in_of g [] h = h
in_of g (x ∷ gs) h = by (nat_eq x.writer.0 g.writer.0) refl h (λ rest. in_of g gs rest)
  where
    by : (b : Bool) → nat_eq x.writer.0 g.writer.0 ≡ b → (g ≡ x) ⊎ Among g gs → (Among g gs → Among g (of g.writer.0 gs)) → Among g (cond b (x ∷ of g.writer.0 gs) (of g.writer.0 gs))
    by true is (inl e) rest = inl e
    by true is (inr m) rest = inr (rest m)
    by false is (inl e) rest = let P : x.writer.0 ≡ g.writer.0 = ap (λ (y : Group). y.writer.0) (sym e) in absurd (let Q : nat_eq x.writer.0 g.writer.0 ≡ true = grind (arith, nat_tests, P) in cc (Q, is))
    by false is (inr m) rest = rest m

pub numbered_below : (gs : List Group) (g : Group) → AreNumbered gs → Among g gs → g.seq ≤ length gs
numbered_below [] g h m = absurd m
numbered_below (x ∷ gs) g h (inl e) = let P : g.seq ≡ x.seq = ap (λ (y : Group). y.seq) e in let Q : x.seq ≡ length gs + 1 = h.0 in omega (arith, P, Q)
numbered_below (x ∷ gs) g h (inr m) = let P : g.seq ≤ length gs = numbered_below gs g h.1 m in omega (arith, P)

pub repeats : RepeatsChangeNothing
repeats ds g m =
    let p = run begun ds in
    let line = (every_run ds).lines g.writer.0 in
    let below : g.seq ≤ length (of g.writer.0 p.received) = numbered_below (of g.writer.0 p.received) g line.numbers (in_of g p.received m) in
    others p.order g (λ same. omega (arith, below, same, line.next))

-- ---- what is waited for

le_of : (m n : ℕ) → nat_le m n ≡ true → m ≤ n
le_of m n h = grind (arith, nat_tests)

less_of : (m n : ℕ) → nat_le m n ≡ false → n < m
less_of m n h = grind (arith, nat_tests)

-- the first entry that isn't covered
uncovered_first : (f v : List VectorEntry) (e : VectorEntry) → uncovered f v ≡ Some e → IsFirstUncovered f v e
uncovered_first f [] e is = absurd (none_not_some e is)
uncovered_first f (d ∷ ds) e is = by (nat_le d.stamp.0 (stamp_of f d.writer.0)) refl is (uncovered_first f ds e)
  where
    by : (b : Bool) → nat_le d.stamp.0 (stamp_of f d.writer.0) ≡ b → cond b (uncovered f ds) (Some d) ≡ Some e → (uncovered f ds ≡ Some e → IsFirstUncovered f ds e)
        → IsFirstUncovered f (d ∷ ds) e
    by true low is rest =
        let its = rest is in
        record { front = d ∷ its.front; back = its.back; split = ap (λ (x : List VectorEntry). d ∷ x) its.split; covered = (le_of d.stamp.0 (stamp_of f d.writer.0) low, its.covered); late = its.late }
    by false low is rest =
        let same : d ≡ e = same_some d e is in
        record {
          front = [];
          back = ds;
          split = ap (λ (x : VectorEntry). x ∷ ds) same;
          covered = tt;
          late = subst (λ (x : VectorEntry). stamp_of f x.writer.0 < x.stamp.0) same (less_of d.stamp.0 (stamp_of f d.writer.0) low);
        }

all_covered : (f front back : List VectorEntry) (e : VectorEntry) → stamp_of f e.writer.0 < e.stamp.0 → uncovered f (front ++ e ∷ back) ≡ None → ⊥
all_covered f [] back e late none = by (nat_le e.stamp.0 (stamp_of f e.writer.0)) refl none
  where
    by : (b : Bool) → nat_le e.stamp.0 (stamp_of f e.writer.0) ≡ b → cond b (uncovered f back) (Some e) ≡ None → ⊥
    by true low none = let P : e.stamp.0 ≤ stamp_of f e.writer.0 = le_of e.stamp.0 (stamp_of f e.writer.0) low in omega (arith, P, late)
    by false low none = none_not_some e (sym none)
all_covered f (d ∷ front) back e late none = by (nat_le d.stamp.0 (stamp_of f d.writer.0)) none (all_covered f front back e late)
  where
    by : (b : Bool) → cond b (uncovered f (front ++ e ∷ back)) (Some d) ≡ None → (uncovered f (front ++ e ∷ back) ≡ None → ⊥) → ⊥
    by true none rest = rest none
    by false none rest = none_not_some d (sym none)

abbrev waits_at : Order → (ℕ × Line) → Option VectorEntry
waits_at o e = waits_in o e.1 e.1.waiting

waits_are : (o : Order) (es : List (ℕ × Line)) → waits_among o es ≡ among (waits_at o) es
waits_are o [] = refl
waits_are o (e ∷ es) = ap (or_later (waits_at o e)) (waits_are o es)

-- at one writer
at_line : (o : Order) (writer : ℕ) (line : Line) (gs : List Group) (e : VectorEntry) → line_of o writer ≡ line → line.waiting ≡ gs → waits_in o line gs ≡ Some e → WaitsAt o writer e
at_line o writer line [] e is all found = absurd (none_not_some e found)
at_line o writer line (g ∷ gs) e is all found = record {
  group = g;
  rest = gs;
  first = ap (λ (l : Line). l.waiting) is ∙ all;
  its = subst (λ (l : Line). IsFirstUncovered o.frontier (vector_of l g) e) (sym is) (uncovered_first o.frontier (vector_of line g) e found);
}

not_at_line : (o : Order) (writer : ℕ) (line : Line) (gs : List Group) (e : VectorEntry) → line_of o writer ≡ line → line.waiting ≡ gs → waits_in o line gs ≡ None → WaitsAt o writer e → ⊥
not_at_line o writer line [] e is all none w =
    let clash : [] ≡ w.group ∷ w.rest = sym all ∙ sym (ap (λ (l : Line). l.waiting) is) ∙ w.first in cc
not_at_line o writer line (g ∷ gs) e is all none w =
    let whole : g ∷ gs ≡ w.group ∷ w.rest = sym all ∙ sym (ap (λ (l : Line). l.waiting) is) ∙ w.first in
    let same : g ≡ w.group = cc in
    let vector : vector_of line g ≡ w.its.front ++ e ∷ w.its.back = ap (vector_of line) same ∙ ap (λ (l : Line). vector_of l w.group) (sym is) ∙ w.its.split in
    all_covered o.frontier w.its.front w.its.back e w.its.late (sym (ap (uncovered o.frontier) vector) ∙ none)

no_line_waits : (o : Order) (q : ℕ) (d : VectorEntry) → fin.get o.lines q ≡ None → WaitsAt o q d → ⊥
no_line_waits o q d none w =
    let clash : [] ≡ w.group ∷ w.rest = sym (ap (λ (l : Option Line). (or_new l).waiting) none) ∙ w.first in cc

not_waiting : (o : Order) (q : ℕ) (d : VectorEntry) → ((l : Line) → fin.get o.lines q ≡ Some l → waits_at o (q, l) ≡ None) → WaitsAt o q d → ⊥
not_waiting o q d none w = by (fin.get o.lines q) refl
  where
    by : (l : Option Line) → fin.get o.lines q ≡ l → ⊥
    by None is = no_line_waits o q d is w
    by (Some l) is = not_at_line o q l l.waiting d (there_is o q l is) refl (none l is) w

pub waits_of_least : WaitsAreOfTheLeast
waits_of_least o = by (waits o) refl
  where
    by : (e : Option VectorEntry) → waits o ≡ e → WaitsTell o e
    by None is = λ q d. not_waiting o q d (none_of (waits_at o) o.lines (sym (waits_are o (fin.entries o.lines)) ∙ is) q)
    by (Some e) is =
        let found = first_of (waits_at o) o.lines e (sym (waits_are o (fin.entries o.lines)) ∙ is) in
        record {
          writer = found.writer;
          its = at_line o found.writer found.line found.line.waiting e (there_is o found.writer found.line found.there) refl found.its;
          least = λ q d less. not_waiting o q d (λ l there. found.before q l less there);
        }
