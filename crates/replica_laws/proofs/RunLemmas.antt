-- What holds after every list of deeds.
use Rattle.std.specs.Prelude.{List, [], ◌∷◌, ◌++◌, ℕ, ◌+◌, ◌-◌, ◌^◌, Bool, true, false, cond, ◌&&◌, nat_eq, nat_lt}
use Rattle.std.proofs.Common.{◌≡◌, ◌∙◌, refl, sym, ap, subst, arith}
use Rattle.std.proofs.lemmas.Bool.Decides.{nat_tests}
use Rattle.std.specs.List.{AllByRecursion}
use Rattle.std.specs.FinMap as fin
use Rattle.std.specs.FinMap.{gets}
use Rattle.std.specs.declared.option.Option.{Option}
use Rattle.std.specs.declared.option.Option.TheVariants.{None, Some}
use Rattle.tm_data.specs.declared.log.Group.{Group}
use Rattle.tm_data.specs.declared.vector.VectorEntry.{VectorEntry}
use Rattle.tm_data.specs.Vectors.{Covers, covers, entry, joined, raised}
use Rattle.tm_data.proofs.VectorLemmas.{covers_means}
use Rattle.replica_model.specs.Order.{Order, after_next, applied, is_covered, is_logged, is_next, line_of, next, nothing, offered_if, or_later, or_new, ready, ready_in, vector_of, with_line, without_first}
use Rattle.replica_model.specs.declared.line.Line.{Line}
use Rattle.replica_laws.specs.Runs.{Deed, EveryRunHolds, Holds, IsLine, Next, Offer, Past, begun, done, if_any, if_taken, learnt, of, onto, run, vector}
use Rattle.replica_laws.proofs.LeastLemmas.{among, first_of, none_not_some, same_some}

-- ---- the lines of a map

got_here : (o : Order) (k w : ℕ) (line : Line) → nat_eq k w ≡ true → line_of (with_line o k line) w ≡ line
got_here o k w line is = grind (arith, nat_tests, gets)

got_past : (o : Order) (k w : ℕ) (line : Line) → nat_eq k w ≡ false → line_of (with_line o k line) w ≡ line_of o w
got_past o k w line is = grind (arith, nat_tests, gets)

pub there_is : (o : Order) (w : ℕ) (line : Line) → fin.get o.lines w ≡ Some line → line_of o w ≡ line
there_is o w line is = ap or_new is

-- ---- a group waits

onto_push : (gs xs : List Group) (g : Group) → onto gs (xs ++ g ∷ []) ≡ g ∷ onto gs xs
onto_push gs [] g = refl
onto_push gs (x ∷ xs) g = onto_push (x ∷ gs) xs g

pushed : (a r : List Group) (line : Line) (g : Group) → IsLine a r line → g.seq ≡ line.next
    → IsLine a (g ∷ r) (record line { next = line.next + 1; waiting = line.waiting ++ g ∷ [] })
pushed a r line g h seq = record {
  front = onto_push a line.waiting g ∙ ap (λ (gs : List Group). g ∷ gs) h.front;
  numbers = (seq ∙ h.next, h.numbers);
  next = omega (arith, h.next);
  heard = h.heard;
}

-- one writer's line and groups after a change at another's or at its own
of_here : (w : ℕ) (g : Group) (gs : List Group) → nat_eq g.writer.0 w ≡ true → of w (g ∷ gs) ≡ g ∷ of w gs
of_here w g gs is = ap (λ b. cond b (g ∷ of w gs) (of w gs)) is

of_past : (w : ℕ) (g : Group) (gs : List Group) → nat_eq g.writer.0 w ≡ false → of w (g ∷ gs) ≡ of w gs
of_past w g gs is = ap (λ b. cond b (g ∷ of w gs) (of w gs)) is

at : (a b r s : List Group) (l m : Line) → a ≡ b → r ≡ s → l ≡ m → IsLine a r l → IsLine b s m
at a b r s l m p q e h = subst (λ (x : List Group). IsLine x s m) p (subst (λ (x : List Group). IsLine a x m) q (subst (λ (x : Line). IsLine a r x) e h))

same_number : (k w : ℕ) → nat_eq k w ≡ true → k ≡ w
same_number k w is = grind (arith, nat_tests)

first_of_three : (a b c : Bool) → (a && b && c) ≡ true → a ≡ true
first_of_three true b c h = refl
first_of_three false true c h = h
first_of_three false false c h = h

offered_line : (p : Past) (g : Group) → Holds p → is_next (line_of p.order g.writer.0) g ≡ true → (w : ℕ)
    → IsLine (of w p.applied) (of w (g ∷ p.received)) (line_of (offered_if p.order g (line_of p.order g.writer.0) true) w)
offered_line p g h is w = by (nat_eq g.writer.0 w) refl
  where
    line : Line
    line = line_of p.order g.writer.0

    more : Line
    more = record line { next = line.next + 1; waiting = line.waiting ++ g ∷ [] }

    seq : g.seq ≡ line.next
    seq = same_number g.seq line.next (first_of_three (nat_eq g.seq line.next) (nat_lt g.seq (2 ^ 32 - 1)) (is_logged g) is)

    by : (b : Bool) → nat_eq g.writer.0 w ≡ b → IsLine (of w p.applied) (of w (g ∷ p.received)) (line_of (with_line p.order g.writer.0 more) w)
    by true same =
        let one : g.writer.0 ≡ w = same_number g.writer.0 w same in
        at (of g.writer.0 p.applied) (of w p.applied) (g ∷ of g.writer.0 p.received) (of w (g ∷ p.received)) more (line_of (with_line p.order g.writer.0 more) w)
        (ap (λ n. of n p.applied) one) (ap (λ n. g ∷ of n p.received) one ∙ sym (of_here w g p.received same)) (sym (got_here p.order g.writer.0 w more same))
        (pushed (of g.writer.0 p.applied) (of g.writer.0 p.received) line g (h.lines g.writer.0) seq)
    by false other =
        at (of w p.applied) (of w p.applied) (of w p.received) (of w (g ∷ p.received)) (line_of p.order w) (line_of (with_line p.order g.writer.0 more) w)
        refl (sym (of_past w g p.received other)) (sym (got_past p.order g.writer.0 w more other)) (h.lines w)

offer_holds : (p : Past) (g : Group) → Holds p → Holds (done p (Offer g))
offer_holds p g h = by (is_next (line_of p.order g.writer.0) g) refl
  where
    by : (b : Bool) → is_next (line_of p.order g.writer.0) g ≡ b
        → Holds (record { order = offered_if p.order g (line_of p.order g.writer.0) b; received = if_taken b g p.received; applied = p.applied })
    by true is = record { frontier = h.frontier; lines = offered_line p g h is; causes = h.causes }
    by false is = h

-- ---- the next group

abbrev pub ready_at : Order → (ℕ × Line) → Option Group
ready_at o e = ready_in o e.1 e.1.waiting

ready_among : (o : Order) (es : List (ℕ × Line)) → ready o es ≡ among (ready_at o) es
ready_among o [] = refl
ready_among o (e ∷ es) = ap (or_later (ready_at o e)) (ready_among o es)

-- the groups that wait are the writer's own
pub all_onto : (P : Group → Type 0) (gs xs : List Group) → AllByRecursion P (onto gs xs) → AllByRecursion P gs × AllByRecursion P xs
all_onto P gs [] h = (h, tt)
all_onto P gs (x ∷ xs) h = let both = all_onto P (x ∷ gs) xs h in (both.0.1, (both.0.0, both.1))

abbrev Own : ℕ → Group → Type 0
Own w g = nat_eq g.writer.0 w ≡ true

of_own : (w : ℕ) (gs : List Group) → AllByRecursion (Own w) (of w gs)
of_own w [] = tt
of_own w (g ∷ gs) = by (nat_eq g.writer.0 w) refl (of_own w gs)
  where
    by : (b : Bool) → nat_eq g.writer.0 w ≡ b → AllByRecursion (Own w) (of w gs) → AllByRecursion (Own w) (cond b (g ∷ of w gs) (of w gs))
    by true is rest = (is, rest)
    by false is rest = rest

pub waiting_own : (p : Past) → Holds p → (w : ℕ) → AllByRecursion (Own w) (line_of p.order w).waiting
waiting_own p h w =
    (all_onto (Own w) (of w p.applied) (line_of p.order w).waiting
    (subst (AllByRecursion (Own w)) (sym (h.lines w).front) (of_own w p.received))).1

-- The group waits at its writer's line as the first one, and the frontier covers what it depends on.
pub record IsNext (o : Order) (g : Group) : Type 0 where
  pub rest : List Group
  pub first : (line_of o g.writer.0).waiting ≡ g ∷ rest
  pub covered : covers o.frontier (vector_of (line_of o g.writer.0) g) ≡ true

record IsAt (o : Order) (line : Line) (g : Group) : Type 0 where
  rest : List Group
  first : line.waiting ≡ g ∷ rest
  covered : covers o.frontier (vector_of line g) ≡ true

ready_first : (o : Order) (line : Line) (gs : List Group) (g : Group) → line.waiting ≡ gs → ready_in o line gs ≡ Some g → IsAt o line g
ready_first o line [] g all is = absurd (none_not_some g is)
ready_first o line (x ∷ gs) g all is = by (is_covered o line x) refl is
  where
    by : (b : Bool) → is_covered o line x ≡ b → cond b (Some x) None ≡ Some g → IsAt o line g
    by true covered is =
        let same : x ≡ g = same_some x g is in
        record { rest = gs; first = all ∙ ap (λ (y : Group). y ∷ gs) same; covered = subst (λ (y : Group). covers o.frontier (vector_of line y) ≡ true) same covered }
    by false covered is = absurd (none_not_some g is)

first_own : (w : ℕ) (gs rest : List Group) (g : Group) → gs ≡ g ∷ rest → AllByRecursion (Own w) gs → Own w g
first_own w gs rest g is all = let them : AllByRecursion (Own w) (g ∷ rest) = subst (AllByRecursion (Own w)) is all in them.0

pub next_is : (p : Past) (g : Group) → Holds p → next p.order ≡ Some g → IsNext p.order g
next_is p g h is =
    let found = first_of (ready_at p.order) p.order.lines g (sym (ready_among p.order (fin.entries p.order.lines)) ∙ is) in
    let its = ready_first p.order found.line found.line.waiting g refl found.its in
    let line : line_of p.order found.writer ≡ found.line = there_is p.order found.writer found.line found.there in
    let waits : (line_of p.order found.writer).waiting ≡ g ∷ its.rest = ap (λ (l : Line). l.waiting) line ∙ its.first in
    let own : g.writer.0 ≡ found.writer =
    same_number g.writer.0 found.writer (first_own found.writer (line_of p.order found.writer).waiting its.rest g waits (waiting_own p h found.writer)) in
    record {
      rest = its.rest;
      first = ap (λ (n : ℕ). (line_of p.order n).waiting) own ∙ waits;
      covered = ap (λ (n : ℕ). covers p.order.frontier (vector_of (line_of p.order n) g)) own ∙ ap (λ (l : Line). covers p.order.frontier (vector_of l g)) line ∙ its.covered;
    }

-- ---- it is applied

popped : (a r : List Group) (line : Line) (g : Group) (rest : List Group) → IsLine a r line → line.waiting ≡ g ∷ rest
    → IsLine (g ∷ a) r (record line { waiting = without_first line.waiting; learnt = vector_of line g })
popped a r line g rest h is = record {
  front = ap (λ (gs : List Group). onto (g ∷ a) (without_first gs)) is ∙ sym (ap (onto a) is) ∙ h.front;
  numbers = h.numbers;
  next = h.next;
  heard = ap (λ (v : List VectorEntry). joined v g.learnt) h.heard;
}

applied_line : (p : Past) (g : Group) → Holds p → IsNext p.order g → (w : ℕ)
    → IsLine (of w (g ∷ p.applied)) (of w p.received) (line_of (applied p.order g) w)
applied_line p g h is w = by (nat_eq g.writer.0 w) refl
  where
    line : Line
    line = line_of p.order g.writer.0

    less : Line
    less = record line { waiting = without_first line.waiting; learnt = vector_of line g }

    by : (b : Bool) → nat_eq g.writer.0 w ≡ b → IsLine (of w (g ∷ p.applied)) (of w p.received) (line_of (with_line p.order g.writer.0 less) w)
    by true same =
        let one : g.writer.0 ≡ w = same_number g.writer.0 w same in
        at (g ∷ of g.writer.0 p.applied) (of w (g ∷ p.applied)) (of g.writer.0 p.received) (of w p.received) less (line_of (with_line p.order g.writer.0 less) w)
        (ap (λ n. g ∷ of n p.applied) one ∙ sym (of_here w g p.applied same)) (ap (λ n. of n p.received) one) (sym (got_here p.order g.writer.0 w less same))
        (popped (of g.writer.0 p.applied) (of g.writer.0 p.received) line g is.rest (h.lines g.writer.0) is.first)
    by false other =
        at (of w p.applied) (of w (g ∷ p.applied)) (of w p.received) (of w p.received) (line_of p.order w) (line_of (with_line p.order g.writer.0 less) w)
        (sym (of_past w g p.applied other)) refl (sym (got_past p.order g.writer.0 w less other)) (h.lines w)

came_first : (p : Past) (g : Group) → Holds p → IsNext p.order g → Covers (vector p.applied) (joined (learnt (of g.writer.0 p.applied)) g.learnt)
came_first p g h is =
    subst (λ (v : List VectorEntry). Covers v (joined (learnt (of g.writer.0 p.applied)) g.learnt)) h.frontier
    (subst (λ (l : List VectorEntry). Covers p.order.frontier (joined l g.learnt)) (h.lines g.writer.0).heard
    (covers_means p.order.frontier (vector_of (line_of p.order g.writer.0) g) is.covered))

next_holds : (p : Past) → Holds p → Holds (done p Next)
next_holds p h = by (next p.order) refl
  where
    by : (n : Option Group) → next p.order ≡ n → Holds (record { order = after_next p.order n; received = p.received; applied = if_any n p.applied })
    by None is = h
    by (Some g) is =
        let its = next_is p g h is in
        record {
          frontier = ap (λ (v : List VectorEntry). raised v (entry g.writer.0 g.stamp.0)) h.frontier;
          lines = applied_line p g h its;
          causes = (came_first p g h its, h.causes);
        }

-- ---- every run

pub deed_holds : (p : Past) (d : Deed) → Holds p → Holds (done p d)
deed_holds p (Offer g) h = offer_holds p g h
deed_holds p Next h = next_holds p h

pub run_holds : (ds : List Deed) (p : Past) → Holds p → Holds (run p ds)
run_holds [] p h = h
run_holds (d ∷ ds) p h = run_holds ds (done p d) (deed_holds p d h)

no_line : (w : ℕ) → line_of nothing w ≡ record { next = 1; waiting = []; learnt = [] }
no_line w = grind (arith, nat_tests, gets)

pub begun_holds : Holds begun
begun_holds = record {
  frontier = refl;
  lines = λ w. at [] [] [] [] (record { next = 1; waiting = []; learnt = [] }) (line_of nothing w) refl refl (sym (no_line w)) (record { front = refl; numbers = tt; next = refl; heard = refl });
  causes = tt;
}

pub every_run : EveryRunHolds
every_run ds = run_holds ds begun begun_holds
