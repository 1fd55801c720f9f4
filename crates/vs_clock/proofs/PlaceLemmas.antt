-- Places of a list that grows at its end.
use Rattle.std.proofs.Common.{◌≡◌, ◌<◌, ◌⊎◌, inl, inr, ℕ, zero, suc, List, [], ◌∷◌, ◌++◌, Some, map, length, refl, sym, ◌∙◌, ap, arith}
use Rattle.std.specs.Prelude.{slice_get}

pub get_old : {X : Type 0} (xs : List X) (x : X) (i : ℕ) (y : X) → slice_get xs i ≡ Some y → slice_get (xs ++ x ∷ []) i ≡ Some y
get_old [] x i y h = absurd (cc)
get_old (z ∷ zs) x zero y h = h
get_old (z ∷ zs) x (suc i) y h = get_old zs x i y h

pub get_new : {X : Type 0} (xs : List X) (x : X) → slice_get (xs ++ x ∷ []) (length xs) ≡ Some x
get_new [] x = refl
get_new (z ∷ zs) x = get_new zs x

-- What stands at a place of the longer list stood there before, or is the new item.
pub old_or_new : {X : Type 0} (xs : List X) (x : X) (i : ℕ) (y : X) → slice_get (xs ++ x ∷ []) i ≡ Some y
    → ((slice_get xs i ≡ Some y) × (i < length xs)) ⊎ ((i ≡ length xs) × (x ≡ y))
old_or_new [] x zero y h = inr (refl, cc)
old_or_new [] x (suc i) y h = absurd (cc)
old_or_new (z ∷ zs) x zero y h = inl (h, omega arith)
old_or_new (z ∷ zs) x (suc i) y h = elim (old_or_new zs x i y h) [ inl old ↦ inl (old.0, omega (arith, old.1)) | inr new ↦ inr (ap suc new.0, new.1) ]

pub place_below : {X : Type 0} (xs : List X) (i : ℕ) (y : X) → slice_get xs i ≡ Some y → i < length xs
place_below [] i y h = absurd (cc)
place_below (z ∷ zs) zero y h = omega arith
place_below (z ∷ zs) (suc i) y h = omega (arith, place_below zs i y h)

-- The places of a list and of its image.
pub image_at : {X Y : Type 0} (f : X → Y) (xs : List X) (ys : List Y) (i : ℕ) (x : X) → map f xs ≡ ys → slice_get xs i ≡ Some x → slice_get ys i ≡ Some (f x)
image_at f xs ys i x same h = ap (λ z. slice_get z i) (sym same) ∙ mapped f xs i x h
  where
    mapped : {X Y : Type 0} (f : X → Y) (xs : List X) (i : ℕ) (x : X) → slice_get xs i ≡ Some x → slice_get (map f xs) i ≡ Some (f x)
    mapped f [] i x h = absurd (cc)
    mapped f (z ∷ zs) zero x h = let e : z ≡ x = cc in ap (λ v. Some (f v)) e
    mapped f (z ∷ zs) (suc i) x h = mapped f zs i x h

pub origin_at : {X Y : Type 0} (f : X → Y) (xs : List X) (ys : List Y) (i : ℕ) (y : Y) → map f xs ≡ ys → slice_get ys i ≡ Some y → (x : X) × (slice_get xs i ≡ Some x)
origin_at f xs ys i y same h = unmapped f xs i y (ap (λ z. slice_get z i) same ∙ h)
  where
    unmapped : {X Y : Type 0} (f : X → Y) (xs : List X) (i : ℕ) (y : Y) → slice_get (map f xs) i ≡ Some y → (x : X) × (slice_get xs i ≡ Some x)
    unmapped f [] i y h = absurd (cc)
    unmapped f (z ∷ zs) zero y h = (z, refl)
    unmapped f (z ∷ zs) (suc i) y h = unmapped f zs i y h
