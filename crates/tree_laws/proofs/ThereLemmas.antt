-- What is there at a place.
use Rattle.std.proofs.Common.{◌≡◌, ◌≢◌, ℕ, ◌+◌, Bool, true, false, ◌&&◌, cond, nat_eq, Option, Some, None, refl, sym, ap, ◌∙◌, arith, inl, inr, ◌⊎◌}
use Rattle.std.proofs.lemmas.Bool.Decides.{nat_tests}
use Rattle.std.specs.Prelude.{IsSome}
use Rattle.tm_data.specs.declared.image.Image.{Image}
use Rattle.tm_data.specs.declared.image.Body.{Body}
use Rattle.tm_data.specs.declared.image.Body.TheVariants.{Blank, Leaf, Inner}
use Rattle.key_fences.specs.Fences.{same_fence}
use Rattle.page_model.specs.Tree.{Images, Place, level_of, table_of, low_of, high_of, is_of, is_at, body_at, there, one_below, root}
use Rattle.page_model.specs.Tiling.{Has}
use Rattle.tree_laws.proofs.FenceLemmas.{both, both_true, same_is, is_same_as}

pub equal_or : (m n : ℕ) (b : Bool) → nat_eq m n ≡ b → (m ≡ n) ⊎ (m ≢ n)
equal_or m n true h = inl (grind (arith, nat_tests))
equal_or m n false h = inr (grind (arith, nat_tests))

pub one_number : (m n : ℕ) → (m ≡ n) ⊎ (m ≢ n)
one_number m n = equal_or m n (nat_eq m n) refl

-- an image at a place, one level below
pub record IsThere (images : Images) (table level : ℕ) (place : Place) : Type 0 where
  pub image : Image
  pub at : images place.page.0 ≡ Some image
  pub of : is_of table image.body ≡ true
  pub low : low_of image.body ≡ place.low
  pub high : high_of image.body ≡ place.high
  pub below : level_of image.body + 1 ≡ level

pub some_of : {A : Type 0} (o : Option A) → IsSome o → (x : A) × (o ≡ Some x)
some_of None h = cc
some_of (Some x) h = (x, refl)

chosen : {A : Type 0} (b : Bool) (x y : A) → cond b (Some x) None ≡ Some y → (b ≡ true) × (x ≡ y)
chosen true x y h = (refl, cc)
chosen false x y h = cc

pub at_parts : (table : ℕ) (place : Place) (body : Body) → is_at table place body ≡ true → (is_of table body ≡ true) × (low_of body ≡ place.low) × (high_of body ≡ place.high)
at_parts table place body h =
    let p = both (is_of table body && same_fence (low_of body) place.low) (same_fence (high_of body) place.high) h in
    let q = both (is_of table body) (same_fence (low_of body) place.low) p.0 in
    (q.0, same_is (low_of body) place.low q.1, same_is (high_of body) place.high p.1)

at_from_parts : (table : ℕ) (place : Place) (body : Body) → is_of table body ≡ true → low_of body ≡ place.low → high_of body ≡ place.high → is_at table place body ≡ true
at_from_parts table place body of low high =
    both_true (is_of table body && same_fence (low_of body) place.low) (same_fence (high_of body) place.high)
    (both_true (is_of table body) (same_fence (low_of body) place.low) of (is_same_as (low_of body) place.low low)) (is_same_as (high_of body) place.high high)

pub body_is : (table : ℕ) (place : Place) (o : Option Image) (body : Body) → body_at table place o ≡ Some body → (i : Image) × (o ≡ Some i) × (i.body ≡ body) × (is_at table place i.body ≡ true)
body_is table place None body h = cc
body_is table place (Some i) body h = let e = chosen (is_at table place i.body) i.body body h in (i, refl, e.1, e.0)

pub below_is : (level : ℕ) (o : Option Body) (body : Body) → one_below level o ≡ Some body → (o ≡ Some body) × (level_of body + 1 ≡ level)
below_is level None body h = cc
below_is level (Some b) body h =
    let e = chosen (nat_eq (level_of b + 1) level) b body h in
    let n : level_of b + 1 ≡ level = let t = e.0 in grind (arith, nat_tests) in
    (ap Some e.1, ap (λ (x : Body). level_of x + 1) (sym e.1) ∙ n)

pub there_from : (images : Images) (table level : ℕ) (place : Place) → IsSome (one_below level (there images table place)) → IsThere images table level place
there_from images table level place h =
    let s = some_of (one_below level (there images table place)) h in
    let b = below_is level (there images table place) s.0 s.1 in
    let i = body_is table place (images place.page.0) s.0 b.0 in
    let parts = at_parts table place i.0.body i.3 in
    record {
      image = i.0;
      at = i.1;
      of = parts.0;
      low = parts.1;
      high = parts.2;
      below = ap (λ (x : Body). level_of x + 1) i.2 ∙ b.1;
    }

pub some_is : {A : Type 0} (o : Option A) (x : A) → o ≡ Some x → IsSome o
some_is None x e = cc
some_is (Some y) x e = refl

pub there_is : (images : Images) (table level : ℕ) (place : Place) → (t : IsThere images table level place) → one_below level (there images table place) ≡ Some t.image.body
there_is images table level place t =
    let a : there images table place ≡ cond (is_at table place t.image.body) (Some t.image.body) None = ap (body_at table place) t.at in
    let b : there images table place ≡ Some t.image.body = a ∙ ap (λ b. cond b (Some t.image.body) None) (at_from_parts table place t.image.body t.of t.low t.high) in
    let n : nat_eq (level_of t.image.body + 1) level ≡ true = let e = t.below in grind (arith, nat_tests) in
    ap (one_below level) b ∙ ap (λ b. cond b (Some t.image.body) None) n

pub there_to : (images : Images) (table level : ℕ) (place : Place) → IsThere images table level place → IsSome (one_below level (there images table place))
there_to images table level place t = some_is (one_below level (there images table place)) t.image.body (there_is images table level place t)

-- the root, with open fences
pub record IsRoot (images : Images) (table : ℕ) : Type 0 where
  pub image : Image
  pub has : Has images table table image
  pub low : low_of image.body ≡ None
  pub high : high_of image.body ≡ None

pub root_from : (images : Images) (table : ℕ) → IsSome (there images table (root table)) → IsRoot images table
root_from images table h =
    let s = some_of (there images table (root table)) h in
    let i = body_is table (root table) (images table) s.0 s.1 in
    let parts = at_parts table (root table) i.0.body i.3 in
    record { image = i.0; has = record { held = i.1; of = parts.0 }; low = parts.1; high = parts.2 }

pub root_is : (images : Images) (table : ℕ) (r : IsRoot images table) → there images table (root table) ≡ Some r.image.body
root_is images table r =
    let a : there images table (root table) ≡ cond (is_at table (root table) r.image.body) (Some r.image.body) None = ap (body_at table (root table)) r.has.held in
    a ∙ ap (λ b. cond b (Some r.image.body) None) (at_from_parts table (root table) r.image.body r.has.of r.low r.high)

pub root_to : (images : Images) (table : ℕ) → IsRoot images table → IsSome (there images table (root table))
root_to images table r = some_is (there images table (root table)) r.image.body (root_is images table r)

pub of_is : (table : ℕ) (body : Body) → is_of table body ≡ true → table_of body ≡ table
of_is table Blank h = cc
of_is table (Leaf of low high rows) h = grind (arith, nat_tests)
of_is table (Inner of level low high first entries) h = grind (arith, nat_tests)

-- a page has one image
pub one_image : (images : Images) (p q : ℕ) (i j : Image) → p ≡ q → images p ≡ Some i → images q ≡ Some j → i ≡ j
one_image images p q i j e h k = let f : images p ≡ images q = ap images e in cc

pub blank_not_of : (table : ℕ) (z : Image) → z.body ≡ Blank → is_of table z.body ≡ true → ⊥
blank_not_of table z e h = let f : is_of table z.body ≡ false = ap (is_of table) e in cc
