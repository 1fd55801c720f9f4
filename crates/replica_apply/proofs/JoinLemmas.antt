-- What a join has that a frontier doesn't cover, from what its two vectors have.
use Rattle.std.specs.Prelude.{List, [], ◌∷◌, ℕ, Bool, true, false, cond, ◌&&◌, nat_le, max, min, is_none}
use Rattle.std.proofs.Common.{◌≡◌, ◌<◌, ◌≤◌, ◌∙◌, refl, sym, ap, subst, arith}
use Rattle.std.proofs.lemmas.Bool.Decides.{nat_tests}
use Rattle.std.specs.Option.{unwrap_or}
use Rattle.std.specs.declared.option.Option.{Option}
use Rattle.std.specs.declared.option.Option.TheVariants.{None, Some}
use Rattle.tm_data.specs.declared.transaction.Writer.{Writer}
use Rattle.tm_data.specs.declared.vector.VectorEntry.{VectorEntry}
use Rattle.tm_data.specs.Vectors.{AscendsAbove, IsVector, entry, stamp_of, Covers, covers, joined}
use Rattle.tm_data.proofs.VectorLemmas.{joined_ascends, joined_stamp, stamp_below, stamp_here, stamp_past}
use Rattle.tm_data.specs.declared.log.Group.{Group}
use Rattle.replica_model.specs.Order.{ready_in, uncovered}
use Rattle.replica_model.specs.declared.line.Line.{Line}
use Rattle.replica_apply.specs.Inside.{at_frontier, first_of, joint, lesser_of, writer_in}

below_max : (a b c : ℕ) → a ≤ c → b ≤ c → max a b ≤ c
below_max a b c h k = omega (arith, h, k)

-- ---- covering is that no entry isn't covered

pub covers_none : (f v : List VectorEntry) → covers f v ≡ is_none (uncovered f v)
covers_none f [] = refl
covers_none f (e ∷ es) = by (nat_le e.stamp.0 (stamp_of f e.writer.0)) (covers_none f es)
  where
    by : (b : Bool) → covers f es ≡ is_none (uncovered f es) → (b && covers f es) ≡ is_none (cond b (uncovered f es) (Some e))
    by true rest = rest
    by false rest = refl

-- ---- the first entry that isn't covered

-- An entry is the first that isn't covered: what it says stands in the vector and isn't covered, and what the vector
-- says of each writer before it is.
record IsFirst (f v : List VectorEntry) (e : VectorEntry) : Type 0 where
  its : stamp_of v e.writer.0 ≡ e.stamp.0
  late : stamp_of f e.writer.0 < e.stamp.0
  before : (w : ℕ) → w < e.writer.0 → stamp_of v w ≤ stamp_of f w

abbrev Tells : List VectorEntry → List VectorEntry → Option VectorEntry → Type 0
Tells f v None = Covers f v
Tells f v (Some e) = IsFirst f v e

le_of : (m n : ℕ) → nat_le m n ≡ true → m ≤ n
le_of m n h = grind (arith, nat_tests)

less_of : (m n : ℕ) → nat_le m n ≡ false → n < m
less_of m n h = grind (arith, nat_tests)

at_head : (e : VectorEntry) (es : List VectorEntry) (w most : ℕ) → (w ≡ e.writer.0 → e.stamp.0 ≤ most) → stamp_of es w ≤ most → stamp_of (e ∷ es) w ≤ most
at_head e es w most here past = grind (arith, nat_tests)

covered_here : (f : List VectorEntry) (e : VectorEntry) (w : ℕ) → e.stamp.0 ≤ stamp_of f e.writer.0 → w ≡ e.writer.0 → e.stamp.0 ≤ stamp_of f w
covered_here f e w h same = subst (λ (n : ℕ). e.stamp.0 ≤ stamp_of f n) (sym same) h

-- the first in the tail, where the head is covered
further : (f : List VectorEntry) (e : VectorEntry) (es : List VectorEntry) (o : Option VectorEntry) → AscendsAbove e.writer.0 es → e.stamp.0 ≤ stamp_of f e.writer.0
    → Tells f es o → Tells f (e ∷ es) o
further f e es None up here rest = λ w. at_head e es w (stamp_of f w) (covered_here f e w here) (rest w)
further f e es (Some d) up here rest = record {
  its = stamp_past e es d.writer.0 (λ same. omega (arith, rest.late, rest.its, stamp_below e.writer.0 es d.writer.0 up (omega (arith, same)))) ∙ rest.its;
  late = rest.late;
  before = λ w l. at_head e es w (stamp_of f w) (covered_here f e w here) (rest.before w l);
}

-- the head, where it isn't covered
head_late : (after : ℕ) (f : List VectorEntry) (e : VectorEntry) (es : List VectorEntry) → AscendsAbove after (e ∷ es) → stamp_of f e.writer.0 < e.stamp.0 → IsFirst f (e ∷ es) e
head_late after f e es up late = record {
  its = stamp_here e es e.writer.0 refl;
  late = late;
  before = λ w l.
      subst (λ (n : ℕ). n ≤ stamp_of f w) (sym (stamp_past e es w (λ same. omega (arith, l, same)) ∙ stamp_below e.writer.0 es w up.2 (omega (arith, l)))) (omega arith);
}

tells : (after : ℕ) (f v : List VectorEntry) → AscendsAbove after v → Tells f v (uncovered f v)
tells after f [] up = λ w. omega arith
tells after f (e ∷ es) up = by (tells e.writer.0 f es up.2) (nat_le e.stamp.0 (stamp_of f e.writer.0)) refl
  where
    by : Tells f es (uncovered f es) → (b : Bool) → nat_le e.stamp.0 (stamp_of f e.writer.0) ≡ b → Tells f (e ∷ es) (cond b (uncovered f es) (Some e))
    by rest true is = further f e es (uncovered f es) up.2 (le_of e.stamp.0 (stamp_of f e.writer.0) is) rest
    by rest false is = head_late after f e es up (less_of e.stamp.0 (stamp_of f e.writer.0) is)

same_entry : (d e : VectorEntry) → d.writer.0 ≡ e.writer.0 → d.stamp.0 ≡ e.stamp.0 → d ≡ e
same_entry d e p q = λ i. entry (p i) (q i)

-- What is told so is the one thing.
only : (f v : List VectorEntry) (o p : Option VectorEntry) → Tells f v o → Tells f v p → o ≡ p
only f v None None h k = refl
only f v None (Some e) h k = absurd (omega (arith, h e.writer.0, k.its, k.late))
only f v (Some d) None h k = absurd (omega (arith, k d.writer.0, h.its, h.late))
only f v (Some d) (Some e) h k =
    let left : e.writer.0 < d.writer.0 → ⊥ = λ l. omega (arith, h.before e.writer.0 l, k.its, k.late) in
    let right : d.writer.0 < e.writer.0 → ⊥ = λ l. omega (arith, k.before d.writer.0 l, h.its, h.late) in
    let same : d.writer.0 ≡ e.writer.0 = apart d.writer.0 e.writer.0 right left in
    ap Some (same_entry d e same (sym h.its ∙ ap (stamp_of v) same ∙ k.its))
  where
    apart : (m n : ℕ) → (m < n → ⊥) → (n < m → ⊥) → m ≡ n
    apart m n a b = grind arith

-- ---- the join's

joins : (f a b : List VectorEntry) → IsVector a → IsVector b → (w s : ℕ) → s ≡ max (stamp_of a w) (stamp_of b w) → stamp_of f w < s
    → ((q : ℕ) → q < w → stamp_of a q ≤ stamp_of f q) → ((q : ℕ) → q < w → stamp_of b q ≤ stamp_of f q) → IsFirst f (joined a b) (entry w s)
joins f a b v u w s is late left right = record {
  its = joined_stamp a b w v u ∙ sym is;
  late = late;
  before = λ q l. subst (λ (n : ℕ). n ≤ stamp_of f q) (sym (joined_stamp a b q v u)) (below_max (stamp_of a q) (stamp_of b q) (stamp_of f q) (left q l) (right q l));
}

above_left : (f a b : List VectorEntry) (d : VectorEntry) → IsFirst f a d → stamp_of f d.writer.0 < max (stamp_of a d.writer.0) (stamp_of b d.writer.0)
above_left f a b d h = omega (arith, h.its, h.late)

above_right : (f a b : List VectorEntry) (d : VectorEntry) → IsFirst f b d → stamp_of f d.writer.0 < max (stamp_of a d.writer.0) (stamp_of b d.writer.0)
above_right f a b d h = omega (arith, h.its, h.late)

told_by : (f a b : List VectorEntry) → IsVector a → IsVector b → (o p : Option VectorEntry) → Tells f a o → Tells f b p
    → Tells f (joined a b) (joint a b (lesser_of (writer_in o) (writer_in p)))
told_by f a b v u None None h k = λ w. subst (λ (n : ℕ). n ≤ stamp_of f w) (sym (joined_stamp a b w v u)) (below_max (stamp_of a w) (stamp_of b w) (stamp_of f w) (h w) (k w))
told_by f a b v u None (Some e) h k = joins f a b v u e.writer.0 _ refl (above_right f a b e k) (λ q l. h q) k.before
told_by f a b v u (Some d) None h k = joins f a b v u d.writer.0 _ refl (above_left f a b d h) h.before (λ q l. k q)
told_by f a b v u (Some d) (Some e) h k = by (nat_le d.writer.0 e.writer.0) refl
  where
    by : (t : Bool) → nat_le d.writer.0 e.writer.0 ≡ t → Tells f (joined a b) (joint a b (Some (record { 0 = min d.writer.0 e.writer.0 })))
    by true is =
        let low : min d.writer.0 e.writer.0 ≡ d.writer.0 = omega (arith, le_of d.writer.0 e.writer.0 is) in
        subst (λ (n : ℕ). Tells f (joined a b) (joint a b (Some (record { 0 = n })))) (sym low)
        (joins f a b v u d.writer.0 _ refl (above_left f a b d h) h.before (λ q l. k.before q (omega (arith, l, le_of d.writer.0 e.writer.0 is))))
    by false is =
        let low : min d.writer.0 e.writer.0 ≡ e.writer.0 = omega (arith, less_of d.writer.0 e.writer.0 is) in
        subst (λ (n : ℕ). Tells f (joined a b) (joint a b (Some (record { 0 = n })))) (sym low)
        (joins f a b v u e.writer.0 _ refl (above_right f a b e k) (λ q l. h.before q (omega (arith, l, less_of d.writer.0 e.writer.0 is))) k.before)

pub uncovered_join : (f a b : List VectorEntry) → IsVector a → IsVector b → uncovered f (joined a b) ≡ joint a b (lesser_of (writer_in (uncovered f a)) (writer_in (uncovered f b)))
uncovered_join f a b v u =
    only f (joined a b) (uncovered f (joined a b)) (joint a b (lesser_of (writer_in (uncovered f a)) (writer_in (uncovered f b))))
    (tells 0 f (joined a b) (joined_ascends 0 a b v u)) (told_by f a b v u (uncovered f a) (uncovered f b) (tells 0 f a v) (tells 0 f b u))

pub told : (f a b : List VectorEntry) → IsVector a → IsVector b → (v w least : Option Writer) → v ≡ writer_in (uncovered f a) → w ≡ writer_in (uncovered f b) → least ≡ lesser_of v w
    → uncovered f (joined a b) ≡ joint a b least
told f a b is_a is_b v w least one other is =
    uncovered_join f a b is_a is_b ∙ sym (ap (joint a b) (is ∙ ap (λ (x : Option Writer). lesser_of x w) one ∙ ap (lesser_of (writer_in (uncovered f a))) other))

pub joint_is : (a b : List VectorEntry) (w : Writer) (s l r : ℕ) → s ≡ max l r → l ≡ stamp_of a w.0 → r ≡ stamp_of b w.0 → Some (entry w.0 s) ≡ joint a b (Some w)
joint_is a b w s l r is left right = ap (λ (n : ℕ). Some (entry w.0 n)) (is ∙ ap (λ (n : ℕ). max n r) left ∙ ap (max (stamp_of a w.0)) right)

-- ---- the first group that waits

same_some : {X : Type 0} (x y : X) → Some x ≡ Some y → x ≡ y
same_some x y e = ap (λ o. unwrap_or o x) e

some_not_none : {X : Type 0} (x : X) → Some x ≡ None → ⊥
some_not_none x h = cc

pub ready_is : (f : List VectorEntry) (line : Line) (gs : List Group) (g : Group) (u : Option VectorEntry) → Some g ≡ first_of gs → u ≡ uncovered f (joined line.learnt g.learnt)
    → cond (is_none u) (Some g) None ≡ ready_in (at_frontier f) line gs
ready_is f line [] g u first is = absurd (some_not_none g first)
ready_is f line (x ∷ gs) g u first is =
    ap (λ (b : Bool). cond b (Some g) None) (ap is_none is ∙ sym (covers_none f (joined line.learnt g.learnt)))
    ∙ ap (λ (y : Group). cond (covers f (joined line.learnt y.learnt)) (Some y) None) (same_some g x first)
