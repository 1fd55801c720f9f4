-- A record's effect on the pages of a shelf.
use Rattle.std.proofs.Common.{◌≡◌, ◌≢◌, ◌+◌, ◌-◌, ℕ, zero, suc, Bool, true, false, cond, nat_eq, nat_lt, List, [], ◌∷◌, set, slice_get, Some, None, refl, sym, ap, ◌∙◌, arith}
use Rattle.std.proofs.lemmas.Bool.Decides.{nat_tests}
use Rattle.tm_data.specs.declared.image.Image.{Image}
use Rattle.tm_data.specs.declared.log.Record.{Record}
use Rattle.page_model.specs.Effects.{page_of, redone_at}
use Rattle.page_model.specs.Tiling.{is_named, changed}
use Rattle.round_works.specs.Shelves.{images_on, Redoes}

own_set : (xs : List Image) (i : ℕ) (x y : Image) → slice_get xs i ≡ Some x → slice_get (set xs i y) i ≡ Some y
own_set [] i x y is = absurd (cc is)
own_set (z ∷ zs) zero x y is = refl
own_set (z ∷ zs) (suc i) x y is = own_set zs i x y is

other_set : (xs : List Image) (i k : ℕ) (y : Image) → k ≢ i → slice_get (set xs i y) k ≡ slice_get xs k
other_set [] i k y differ = refl
other_set (z ∷ zs) zero zero y differ = absurd (differ refl)
other_set (z ∷ zs) zero (suc k) y differ = refl
other_set (z ∷ zs) (suc i) zero y differ = refl
other_set (z ∷ zs) (suc i) (suc k) y differ = other_set zs i k y (λ e. differ (ap suc e))

-- The page of an index is there.
indexed : (root : Image) (xs : List Image) (at p : ℕ) (x : Image) → p ≡ at + 1025 → slice_get xs at ≡ Some x → images_on root xs p ≡ Some x
indexed root xs at p x is there =
    let not_root : nat_eq p 1 ≡ false = grind (arith, nat_tests) in
    let fresh : nat_lt p 1025 ≡ false = grind (arith, nat_tests) in
    let index : p - 1025 ≡ at = omega arith in
    rw (not_root, fresh, index) there

-- Another page is as it was.
untouched : (root : Image) (xs : List Image) (at p : ℕ) (y : Image) → p ≢ at + 1025 → images_on root (set xs at y) p ≡ images_on root xs p
untouched root xs at p y differ = by (nat_eq p 1) (nat_lt p 1025) refl
  where
    by : (is_root is_below : Bool) → nat_lt p 1025 ≡ is_below
        → cond is_root (Some root) (cond is_below None (slice_get (set xs at y) (p - 1025)))
        ≡ cond is_root (Some root) (cond is_below None (slice_get xs (p - 1025)))
    by true is_below test = refl
    by false true test = refl
    by false false test =
        let low : p - 1025 ≢ at = λ e. differ (grind (arith, nat_tests)) in
        other_set xs at (p - 1025) y low

-- A record that is redone on the page of an index.
pub indexed_redone : (root : Image) (others : List Image) (change : Record) (stamp page at : ℕ) (image new : Image)
    → page_of change ≡ Some page → page ≡ at + 1025 → slice_get others at ≡ Some image → redone_at image change stamp ≡ Some new
    → Redoes (images_on root others) (images_on root (set others at new)) change stamp
indexed_redone root others change stamp page at image new names place there made p = by (is_named (page_of change) p) named
  where
    named : nat_eq page p ≡ is_named (page_of change) p
    named = ap (λ o. is_named o p) (sym names)

    by : (b : Bool) → nat_eq page p ≡ b
        → images_on root (set others at new) p ≡ changed (images_on root others p) (cond b (Some change) None) stamp
    by true same =
        let is : p ≡ at + 1025 = grind (arith, nat_tests) in
        let after_it : images_on root (set others at new) p ≡ Some new = indexed root (set others at new) at p new is (own_set others at image new there) in
        let before_it : images_on root others p ≡ Some image = indexed root others at p image is there in
        after_it ∙ sym (ap (λ i. changed i (Some change) stamp) before_it ∙ made)
    by false other = untouched root others at p new (λ e. absurd (grind (arith, nat_tests, e)))
