-- What stands at a place of a list after a push or a write.
use Rattle.std.proofs.Common.{◌≡◌, ◌∙◌, ℕ, suc, zero, ◌+◌, ◌<◌, ◌≤◌, ◌⊎◌, inl, inr, List, [], ◌∷◌, ◌++◌, Some, None, refl, sym, ap, arith, length, set}
use Rattle.std.specs.Prelude.{slice_get, Contains}
use Rattle.std.proofs.lemmas.Option.{slice_get_within, slice_get-get_or, get_or_from_slice_get}

module _ {A : Type 0} where
  pub got_left : (xs ys : List A) (i : ℕ) → i < length xs → slice_get (xs ++ ys) i ≡ slice_get xs i
  got_left [] ys i h = absurd (omega arith)
  got_left (x ∷ xs) ys zero h = refl
  got_left (x ∷ xs) ys (suc i) h = got_left xs ys i (omega arith)

  pub got_last : (xs : List A) (x : A) (i : ℕ) → i ≡ length xs → slice_get (xs ++ x ∷ []) i ≡ Some x
  got_last [] x zero h = refl
  got_last [] x (suc i) h = absurd (omega arith)
  got_last (y ∷ xs) x zero h = absurd (omega arith)
  got_last (y ∷ xs) x (suc i) h = got_last xs x i (omega arith)

  pub got_pushed : (xs : List A) (y x : A) (i : ℕ) → slice_get (xs ++ y ∷ []) i ≡ Some x → (slice_get xs i ≡ Some x) ⊎ ((i ≡ length xs) × (x ≡ y))
  got_pushed [] y x zero h = inr (refl, cc)
  got_pushed [] y x (suc i) h = absurd (cc)
  got_pushed (z ∷ xs) y x zero h = inl h
  got_pushed (z ∷ xs) y x (suc i) h = later (got_pushed xs y x i h)
    where
      later : (slice_get xs i ≡ Some x) ⊎ ((i ≡ length xs) × (x ≡ y)) → (slice_get xs i ≡ Some x) ⊎ ((suc i ≡ length (z ∷ xs)) × (x ≡ y))
      later (inl e) = inl e
      later (inr e) = inr (omega (arith, e.0), e.1)

  pub got_set : (xs : List A) (i j : ℕ) (v x : A) → slice_get (set xs i v) j ≡ Some x → (slice_get xs j ≡ Some x) ⊎ (j ≡ i)
  got_set [] i j v x h = inl h
  got_set (y ∷ xs) zero zero v x h = inr refl
  got_set (y ∷ xs) zero (suc j) v x h = inl h
  got_set (y ∷ xs) (suc i) zero v x h = inl h
  got_set (y ∷ xs) (suc i) (suc j) v x h = later (got_set xs i j v x h)
    where
      later : (slice_get xs j ≡ Some x) ⊎ (j ≡ i) → (slice_get xs j ≡ Some x) ⊎ (suc j ≡ suc i)
      later (inl e) = inl e
      later (inr e) = inr (ap suc e)

  pub got_within : (xs : List A) (i : ℕ) → i < length xs → (x : A) × (slice_get xs i ≡ Some x)
  got_within [] i h = absurd (omega arith)
  got_within (x ∷ xs) zero h = (x, refl)
  got_within (x ∷ xs) (suc i) h = got_within xs i (omega arith)

  pub contained : (xs : List A) (x : A) (i : ℕ) → slice_get xs i ≡ Some x → Contains xs x
  contained xs x i e = (i, slice_get_within xs i x e, get_or_from_slice_get xs i x x e)

  pub place_of : (xs : List A) (x : A) → Contains xs x → (i : ℕ) × (slice_get xs i ≡ Some x)
  place_of xs x h = (h.0, slice_get-get_or xs h.0 x h.1 ∙ ap Some h.2)
