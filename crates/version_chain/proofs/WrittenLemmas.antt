-- Where a writer has records, found among the places of all writers.
use Rattle.std.specs.Prelude.{◌≡◌, ℕ, Bool, true, false, cond, ◌&&◌, ◌||◌, ◌<◌, ◌≤◌, nat_eq, nat_le, List, [], ◌∷◌}
use Rattle.std.proofs.Common.{◌++◌, refl, sym, ◌∙◌, ap, arith, append_assoc}
use Rattle.std.proofs.lemmas.List.{append-nil}
use Rattle.std.specs.declared.cmp.Ordering.{Ordering}
use Rattle.std.specs.declared.cmp.Ordering.TheVariants.{Less, Equal, Greater}
use Rattle.std.specs.declared.ops.Bound.TheVariants.{Included, Unbounded}
use Rattle.std.specs.Ordering.{is_eq, is_le, ordering_then, nat_cmp}
use Rattle.std.specs.List.{list_any, AllByRecursion}
use Rattle.std.specs.List.Sorted.{IsStrictlySortedBy}
use Rattle.std.specs.BTreeMap.{is_at}
use Rattle.std.specs.BTreeSet.{keys_between}
use Rattle.std.proofs.lemmas.Bool.Decides.{nat_tests}
use Rattle.version_chain.specs.declared.places.Place.{Place}
use Rattle.version_chain.specs.declared.places.Written.{Written}
use Rattle.version_chain.specs.Places.{place_at, place_cmp, written_at, written_cmp}
use Rattle.version_chain.specs.Content.{Ascend, is_in, same_place}
use Rattle.version_chain.specs.Inside.{places_from}

not_both : (b : Bool) → b ≡ true → b ≡ false → ⊥
not_both true h g = absurd (cc g)
not_both false h g = absurd (cc h)

less_not_greater : Greater ≡ Less → ⊥
less_not_greater h = absurd (cc h)

-- ---- places in order

eq_then : (a b : Ordering) → is_eq (ordering_then a b) ≡ (is_eq a && is_eq b)
eq_then Less b = refl
eq_then Equal b = refl
eq_then Greater b = refl

eq_nat : (a b : ℕ) → is_eq (nat_cmp a b) ≡ nat_eq a b
eq_nat a b = grind (arith, nat_tests)

pub place_test : (p q : Place) → is_eq (place_cmp p q) ≡ same_place p q
place_test p q = eq_then (nat_cmp p.stamp.0 q.stamp.0) (nat_cmp p.page.0 q.page.0) ∙ ap (λ b. b && is_eq (nat_cmp p.page.0 q.page.0)) (eq_nat p.stamp.0 q.stamp.0) ∙ ap (λ b. nat_eq p.stamp.0 q.stamp.0 && b) (eq_nat p.page.0 q.page.0)

pub written_test : (v w : Written) → is_at (written_cmp v) w ≡ (nat_eq v.writer.0 w.writer.0 && same_place v.at w.at)
written_test v w = eq_then (nat_cmp v.writer.0 w.writer.0) (place_cmp v.at w.at) ∙ ap (λ b. b && is_eq (place_cmp v.at w.at)) (eq_nat v.writer.0 w.writer.0) ∙ ap (λ b. nat_eq v.writer.0 w.writer.0 && b) (place_test v.at w.at)

-- What is before another one has no greater writer.
later_writer : (v w : Written) → written_cmp v w ≡ Less → v.writer.0 ≤ w.writer.0
later_writer v w h = by (nat_cmp v.writer.0 w.writer.0) refl h
  where
    by : (r : Ordering) → nat_cmp v.writer.0 w.writer.0 ≡ r → ordering_then r (place_cmp v.at w.at) ≡ Less → v.writer.0 ≤ w.writer.0
    by Less is g = grind (arith, nat_tests)
    by Equal is g = grind (arith, nat_tests)
    by Greater is g = absurd (less_not_greater g)

-- Of one writer, it is an earlier place.
later_place : (v w : Written) → written_cmp v w ≡ Less → v.writer.0 ≡ w.writer.0 → place_cmp v.at w.at ≡ Less
later_place v w h own = by (nat_cmp v.writer.0 w.writer.0) refl h
  where
    by : (r : Ordering) → nat_cmp v.writer.0 w.writer.0 ≡ r → ordering_then r (place_cmp v.at w.at) ≡ Less → place_cmp v.at w.at ≡ Less
    by Less is g = absurd (grind (arith, nat_tests))
    by Equal is g = g
    by Greater is g = absurd (less_not_greater g)

-- ---- from the first place on

abbrev pub first : ℕ → ℕ → Written
first writer from = written_at writer (place_at 0 from)

-- A record of the writer from the stamp on isn't before the first place.
from_first : (w s : ℕ) (k : Written) → k.writer.0 ≡ w → s ≤ k.at.stamp.0 → is_le (written_cmp (first w s) k) ≡ true
from_first w s k own late = by (nat_cmp w k.writer.0) refl (nat_cmp s k.at.stamp.0) refl (nat_cmp 0 k.at.page.0) refl
  where
    by : (a : Ordering) → nat_cmp w k.writer.0 ≡ a → (b : Ordering) → nat_cmp s k.at.stamp.0 ≡ b → (c : Ordering) → nat_cmp 0 k.at.page.0 ≡ c → is_le (ordering_then a (ordering_then b c)) ≡ true
    by Less ia b ib c ic = refl
    by Equal ia Less ib c ic = refl
    by Equal ia Equal ib Less ic = refl
    by Equal ia Equal ib Equal ic = refl
    by Equal ia Equal ib Greater ic = absurd (grind (arith, nat_tests))
    by Equal ia Greater ib c ic = absurd (grind (arith, nat_tests))
    by Greater ia b ib c ic = absurd (grind (arith, nat_tests))

stamp_from : (w s : ℕ) (k : Written) → k.writer.0 ≡ w → is_le (written_cmp (first w s) k) ≡ true → s ≤ k.at.stamp.0
stamp_from w s k own low = by (nat_cmp w k.writer.0) refl (nat_cmp s k.at.stamp.0) refl low
  where
    by : (a : Ordering) → nat_cmp w k.writer.0 ≡ a → (b : Ordering) → nat_cmp s k.at.stamp.0 ≡ b → is_le (ordering_then a (ordering_then b (nat_cmp 0 k.at.page.0))) ≡ true → s ≤ k.at.stamp.0
    by Less ia b ib h = absurd (grind (arith, nat_tests))
    by Equal ia Less ib h = grind (arith, nat_tests)
    by Equal ia Equal ib h = grind (arith, nat_tests)
    by Equal ia Greater ib h = absurd (not_both false h refl)
    by Greater ia b ib h = absurd (not_both false h refl)

writer_from : (w s : ℕ) (k : Written) → is_le (written_cmp (first w s) k) ≡ true → w ≤ k.writer.0
writer_from w s k low = by (nat_cmp w k.writer.0) refl low
  where
    by : (a : Ordering) → nat_cmp w k.writer.0 ≡ a → is_le (ordering_then a (place_cmp (place_at 0 s) k.at)) ≡ true → w ≤ k.writer.0
    by Less ia h = grind (arith, nat_tests)
    by Equal ia h = grind (arith, nat_tests)
    by Greater ia h = absurd (not_both false h refl)

-- ---- the walk

-- The places up to the first of another writer.
abbrev pub front_of : List Written → ℕ → List Place
front_of [] writer = []
front_of (k ∷ ks) writer = cond (nat_eq k.writer.0 writer) (k.at ∷ front_of ks writer) []

none_later : (w s : ℕ) (k : Written) (ks : List Written) → w < k.writer.0 → AllByRecursion (λ y. written_cmp k y ≡ Less) ks → places_from ks w s ≡ []
none_later w s k [] lt h = refl
none_later w s k (y ∷ ys) lt h =
    let later : k.writer.0 ≤ y.writer.0 = later_writer k y h.0 in
    let b : nat_eq y.writer.0 w ≡ false = grind (arith, nat_tests) in
    ap (λ t. cond (t && nat_le s y.at.stamp.0) (y.at ∷ places_from ys w s) (places_from ys w s)) b ∙ none_later w s k ys lt h.1

pub front_is : (w s : ℕ) (ks : List Written) → IsStrictlySortedBy written_cmp ks
    → front_of (keys_between written_cmp (Included (first w s)) Unbounded (record { keys = ks })) w ≡ places_from ks w s
unfolding IsStrictlySortedBy
front_is w s [] h = refl
front_is w s (k ∷ ks) h = by (is_le (written_cmp (first w s) k)) refl (nat_eq k.writer.0 w) refl (nat_le s k.at.stamp.0) refl (front_is w s ks h.1)
  where
    rest : List Written
    rest = keys_between written_cmp (Included (first w s)) Unbounded (record { keys = ks })

    by : (a : Bool) → is_le (written_cmp (first w s) k) ≡ a → (b : Bool) → nat_eq k.writer.0 w ≡ b → (d : Bool) → nat_le s k.at.stamp.0 ≡ d → front_of rest w ≡ places_from ks w s
        → front_of (cond (a && true) (k ∷ rest) rest) w ≡ cond (b && d) (k.at ∷ places_from ks w s) (places_from ks w s)
    by true low true own true late ih = ap (λ t. cond t (k.at ∷ front_of rest w) []) own ∙ ap (λ l. k.at ∷ l) ih
    by true low true own false early ih =
        let same : k.writer.0 ≡ w = grind (arith, nat_tests) in
        let late : s ≤ k.at.stamp.0 = stamp_from w s k same low in
        absurd (grind (arith, nat_tests))
    by true low false other d is ih =
        let ge : w ≤ k.writer.0 = writer_from w s k low in
        let gt : w < k.writer.0 = grind (arith, nat_tests) in
        ap (λ t. cond t (k.at ∷ front_of rest w) []) other ∙ sym (none_later w s k ks gt h.0)
    by false low true own true late ih =
        let same : k.writer.0 ≡ w = grind (arith, nat_tests) in
        let le : s ≤ k.at.stamp.0 = grind (arith, nat_tests) in
        absurd (not_both _ (from_first w s k same le) low)
    by false low true own false early ih = ih
    by false low false other d is ih = ih

-- ---- what the places are

all_after : (w s : ℕ) (k : Written) (ks : List Written) → k.writer.0 ≡ w → AllByRecursion (λ y. written_cmp k y ≡ Less) ks → AllByRecursion (λ q. place_cmp k.at q ≡ Less) (places_from ks w s)
all_after w s k [] own h = tt
all_after w s k (y ∷ ys) own h = by (nat_eq y.writer.0 w) refl (nat_le s y.at.stamp.0) (all_after w s k ys own h.1)
  where
    by : (b : Bool) → nat_eq y.writer.0 w ≡ b → (d : Bool) → AllByRecursion (λ q. place_cmp k.at q ≡ Less) (places_from ys w s)
        → AllByRecursion (λ q. place_cmp k.at q ≡ Less) (cond (b && d) (y.at ∷ places_from ys w s) (places_from ys w s))
    by true is true ih = let same : k.writer.0 ≡ y.writer.0 = grind (arith, nat_tests) in (later_place k y h.0 same, ih)
    by true is false ih = ih
    by false is d ih = ih

pub places_ascend : (w s : ℕ) (ks : List Written) → IsStrictlySortedBy written_cmp ks → Ascend (places_from ks w s)
unfolding IsStrictlySortedBy
places_ascend w s [] h = tt
places_ascend w s (k ∷ ks) h = by (nat_eq k.writer.0 w) refl (nat_le s k.at.stamp.0) (places_ascend w s ks h.1)
  where
    by : (b : Bool) → nat_eq k.writer.0 w ≡ b → (d : Bool) → Ascend (places_from ks w s) → Ascend (cond (b && d) (k.at ∷ places_from ks w s) (places_from ks w s))
    by true is true ih = let same : k.writer.0 ≡ w = grind (arith, nat_tests) in (all_after w s k ks same h.0, ih)
    by true is false ih = ih
    by false is d ih = ih

pub places_each : (w s : ℕ) (p : Place) (ks : List Written) → is_in p (places_from ks w s) ≡ (list_any (is_at (written_cmp (written_at w p))) ks && nat_le s p.stamp.0)
places_each w s p [] = refl
places_each w s p (k ∷ ks) =
    by (nat_eq k.writer.0 w) refl (nat_le s k.at.stamp.0) refl (same_place p k.at) refl (places_each w s p ks)
    ∙ sym (ap (λ t. (t || list_any (is_at (written_cmp (written_at w p))) ks) && nat_le s p.stamp.0) (written_test (written_at w p) k ∙ ap (λ b. b && same_place p k.at) turned))
  where
    turned : nat_eq w k.writer.0 ≡ nat_eq k.writer.0 w
    turned = grind (arith, nat_tests)

    more : Bool
    more = list_any (is_at (written_cmp (written_at w p))) ks

    late : (d c : Bool) → nat_le s k.at.stamp.0 ≡ d → same_place p k.at ≡ c → c ≡ true → nat_le s p.stamp.0 ≡ d
    late d c id ic is = grind (arith, nat_tests)

    by : (b : Bool) → nat_eq k.writer.0 w ≡ b → (d : Bool) → nat_le s k.at.stamp.0 ≡ d → (c : Bool) → same_place p k.at ≡ c → is_in p (places_from ks w s) ≡ (more && nat_le s p.stamp.0)
        → is_in p (cond (b && d) (k.at ∷ places_from ks w s) (places_from ks w s)) ≡ (((b && c) || more) && nat_le s p.stamp.0)
    by true ib true id true ic ih = ap (λ t. t || is_in p (places_from ks w s)) ic ∙ sym (late true true id ic refl)
    by true ib true id false ic ih = ap (λ t. t || is_in p (places_from ks w s)) ic ∙ ih
    by true ib false id true ic ih = ih ∙ ap (λ t. more && t) (late false true id ic refl) ∙ and_false more ∙ sym (late false true id ic refl)
      where
        and_false : (b : Bool) → (b && false) ≡ false
        and_false true = refl
        and_false false = refl
    by true ib false id false ic ih = ih
    by false ib d id c ic ih = ih

-- ---- the loop of the walk

module _ (w : ℕ) (all places : List Place) (its rest : List Written) (k : Written) where
  -- The first of another writer is reached.
  pub walk_stops : places ++ front_of its w ≡ all → its ≡ k ∷ rest → nat_eq k.writer.0 w ≡ false → places ≡ all
  walk_stops inv is other =
      sym (append-nil places) ∙ ap (λ l. places ++ l) (sym (ap (λ ks. front_of ks w) is ∙ ap (λ t. cond t (k.at ∷ front_of rest w) []) other)) ∙ inv

  -- One more of the writer.
  pub walk_goes : (more : List Place) → more ≡ places ++ k.at ∷ [] → places ++ front_of its w ≡ all → its ≡ k ∷ rest → nat_eq k.writer.0 w ≡ true → more ++ front_of rest w ≡ all
  walk_goes more more_is inv is own =
      ap (λ l. l ++ front_of rest w) more_is
      ∙ append_assoc places (k.at ∷ []) (front_of rest w)
      ∙ ap (λ l. places ++ l) (sym (ap (λ ks. front_of ks w) is ∙ ap (λ t. cond t (k.at ∷ front_of rest w) []) own))
      ∙ inv

pub walk_done : (w : ℕ) (all places : List Place) (its : List Written) → places ++ front_of its w ≡ all → its ≡ [] → places ≡ all
walk_done w all places its inv is = sym (append-nil places) ∙ ap (λ l. places ++ l) (sym (ap (λ ks. front_of ks w) is)) ∙ inv
