-- Covers of bounds.
use Rattle.std.proofs.Common.{◌≡◌, ◌≤◌, ◌<◌, ◌⊎◌, ℕ, Bool, true, false, nat_le, List, [], ◌∷◌, max, inl, inr, refl, sym, subst, ap, ◌∙◌, arith}
use Rattle.std.proofs.lemmas.Bool.{cases_Bool}
use Rattle.std.proofs.lemmas.Bool.Decides.{nat_tests}
use Rattle.std.specs.List.{AllByRecursion}
use Rattle.tm_data.specs.declared.log.Group.{Group}
use Rattle.key_model.specs.Cuts.{under}
use Rattle.history_model.specs.History.{Bound, Deed, Reads, Logs, Entry, has}
use Rattle.history_model.specs.Bounds.{AtMost, join, has_under, where_under, cover, IsOwnCover}
use Rattle.history_laws.specs.Statements.{BoundsAreCovers, CoversAreLeast}
use Rattle.history_laws.proofs.ListLemmas.{Among, among_all, all_map}
use Rattle.history_laws.proofs.WholeLemmas.{both_of}

trans : (a b c : Bound) → AtMost a b → AtMost b c → AtMost a c
trans a b c f g w = omega (arith, f w, g w)

joins : (a b c : Bound) → AtMost a c → AtMost b c → AtMost (join a b) c
joins a b c f g w = omega (arith, f w, g w)

left_most : (a b : Bound) → AtMost a (join a b)
left_most a b w = omega arith

right_most : (a b : Bound) → AtMost b (join a b)
right_most a b w = omega arith

above : (entries : List Entry) (v : Bound) → AtMost v (cover entries v)
above [] v = λ w. omega arith
above (e ∷ entries) v = trans v (cover entries v) (cover (e ∷ entries) v) (above entries v) (right_most (where_under (has_under v e.deed) e.bound) (cover entries v))

least : (entries : List Entry) (v other : Bound) → AtMost v other → IsOwnCover entries other → AtMost (cover entries v) other
least [] v other most own = most
least (e ∷ entries) v other most own =
    joins (where_under (has_under v e.deed) e.bound) (cover entries v) other (by (has_under v e.deed) refl) (least entries v other most own.1)
  where
    more : (d : Deed) → has_under v d ≡ true → has_under other d ≡ true
    more (Reads w t key) h = h
    more (Logs g) h = let le : g.stamp.0 ≤ v g.writer.0 = grind (arith, nat_tests) in let m : v g.writer.0 ≤ other g.writer.0 = most g.writer.0 in let k : g.stamp.0 ≤ other g.writer.0 = omega arith in grind (arith, nat_tests)

    by : (b : Bool) → has_under v e.deed ≡ b → AtMost (where_under b e.bound) other
    by true is = own.0 (more e.deed is)
    by false is = λ w. omega arith

-- ---- a group under the cover

-- The group is under the bound, or under the bound of an entry which the bound has under it.
abbrev Under : Group → Bound → List Entry → Type 0
Under g v entries = (has (under v) g ≡ true) ⊎ ((e : Entry) × Among e entries × (has_under v e.deed ≡ true) × (has (under e.bound) g ≡ true))

either_max : (s a b : ℕ) → nat_le s (max a b) ≡ true → (nat_le s a ≡ true) ⊎ (nat_le s b ≡ true)
either_max s a b h = by (cases_Bool (nat_le s a))
  where
    by : (nat_le s a ≡ true) ⊎ (nat_le s a ≡ false) → (nat_le s a ≡ true) ⊎ (nat_le s b ≡ true)
    by (inl is) = inl is
    by (inr out) = inr (
        let whole : s ≤ max a b = grind (arith, nat_tests) in
        let past : a < s = grind (arith, nat_tests) in
        let k : s ≤ b = omega (arith, whole, past) in
        grind (arith, nat_tests, k))

under_cover : (g : Group) (entries : List Entry) (v : Bound) → has (under (cover entries v)) g ≡ true → Under g v entries
under_cover g [] v h = inl h
under_cover g (e ∷ entries) v h =
    by (either_max g.stamp.0 (where_under (has_under v e.deed) e.bound g.writer.0) (cover entries v g.writer.0) h) (under_cover g entries v)
  where
    mine : (b : Bool) → has_under v e.deed ≡ b → nat_le g.stamp.0 (where_under b e.bound g.writer.0) ≡ true → Under g v (e ∷ entries)
    mine true is le = inr (e, inl refl, is, le)
    mine false is le = inl (let k : g.stamp.0 ≤ 0 = grind (arith, nat_tests) in let m : g.stamp.0 ≤ v g.writer.0 = omega (arith, k) in grind (arith, nat_tests, m))

    deeper : Under g v entries → Under g v (e ∷ entries)
    deeper (inl is) = inl is
    deeper (inr w) = inr (w.0, inr w.1, w.2, w.3)

    by : (nat_le g.stamp.0 (where_under (has_under v e.deed) e.bound g.writer.0) ≡ true) ⊎ (nat_le g.stamp.0 (cover entries v g.writer.0) ≡ true)
        → (nat_le g.stamp.0 (cover entries v g.writer.0) ≡ true → Under g v entries) → Under g v (e ∷ entries)
    by (inl le) rest = mine (has_under v e.deed) refl le
    by (inr le) rest = deeper (rest le)

-- what an entry under the bound has is at most the cover
in_cover : (entries : List Entry) (v : Bound) → AllByRecursion (λ (e : Entry). has_under v e.deed ≡ true → AtMost e.bound (cover entries v)) entries
in_cover [] v = tt
in_cover (e ∷ entries) v = (
  (λ is. subst (λ b. AtMost e.bound (join (where_under b e.bound) (cover entries v))) (sym is) (left_most e.bound (cover entries v))),
  all_map (λ (i : Entry). has_under v i.deed ≡ true → AtMost i.bound (cover entries v)) (λ (i : Entry). has_under v i.deed ≡ true → AtMost i.bound (cover (e ∷ entries) v))
      (λ i h is. trans i.bound (cover entries v) (cover (e ∷ entries) v) (h is) (right_most (where_under (has_under v e.deed) e.bound) (cover entries v))) entries (in_cover entries v),
)

owns : (whole : List Entry) (v : Bound) → BoundsAreCovers whole → (i : Entry) → (AllByRecursion (λ (e : Entry). has_under e.bound i.deed ≡ true → AtMost i.bound e.bound) whole)
    → (has_under v i.deed ≡ true → AtMost i.bound (cover whole v)) → (d : Deed) → i.deed ≡ d → has_under (cover whole v) d ≡ true → AtMost i.bound (cover whole v)
owns whole v bounds i all most (Reads w t key) is h = absurd (cc h)
owns whole v bounds i all most (Logs g) is h = by (under_cover g whole v h)
  where
    by : Under g v whole → AtMost i.bound (cover whole v)
    by (inl direct) = most (ap (has_under v) is ∙ direct)
    by (inr w) =
        trans i.bound w.0.bound (cover whole v)
        (among_all (λ (e : Entry). has_under e.bound i.deed ≡ true → AtMost i.bound e.bound) w.0 whole all w.1 (ap (has_under w.0.bound) is ∙ w.3))
        (among_all (λ (e : Entry). has_under v e.deed ≡ true → AtMost e.bound (cover whole v)) w.0 whole (in_cover whole v) w.1 w.2)

-- the same premise, read by the entry that is under
turned : (whole part : List Entry) → AllByRecursion (λ (e : Entry). IsOwnCover part e.bound) whole
    → AllByRecursion (λ (i : Entry). AllByRecursion (λ (e : Entry). has_under e.bound i.deed ≡ true → AtMost i.bound e.bound) whole) part
turned whole [] h = tt
turned whole (i ∷ part) h = (
  all_map (λ (e : Entry). IsOwnCover (i ∷ part) e.bound) (λ (e : Entry). has_under e.bound i.deed ≡ true → AtMost i.bound e.bound) (λ e c. c.0) whole h,
  turned whole part (all_map (λ (e : Entry). IsOwnCover (i ∷ part) e.bound) (λ (e : Entry). IsOwnCover part e.bound) (λ e c. c.1) whole h),
)

all_own : (whole : List Entry) (v : Bound) → BoundsAreCovers whole → IsOwnCover whole (cover whole v)
all_own whole v bounds =
    all_map (λ (i : Entry). AllByRecursion (λ (e : Entry). has_under e.bound i.deed ≡ true → AtMost i.bound e.bound) whole × (has_under v i.deed ≡ true → AtMost i.bound (cover whole v)))
    (λ (i : Entry). has_under (cover whole v) i.deed ≡ true → AtMost i.bound (cover whole v))
    (λ i f. owns whole v bounds i f.0 f.1 i.deed refl) whole
    (both_of (λ (i : Entry). AllByRecursion (λ (e : Entry). has_under e.bound i.deed ≡ true → AtMost i.bound e.bound) whole)
    (λ (i : Entry). has_under v i.deed ≡ true → AtMost i.bound (cover whole v)) whole (turned whole whole bounds) (in_cover whole v))

pub covers_least : CoversAreLeast
covers_least entries v = record {
  least = above entries v;
  own = all_own entries v;
  most = least entries v;
}
