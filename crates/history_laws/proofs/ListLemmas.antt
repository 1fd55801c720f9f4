-- Lists: what is among the items, what some item passes, and splits.
use Rattle.std.proofs.Common.{◌≡◌, ◌⊎◌, Bool, true, false, ◌||◌, List, [], ◌∷◌, ◌++◌, inl, inr, refl, sym, subst}
use Rattle.std.specs.List.{AllByRecursion, list_any}
pub use Rattle.page_model.specs.Lists.{Among}

pub among_all : {A : Type 0} (R : A → Type 0) (x : A) (xs : List A) → AllByRecursion R xs → Among x xs → R x
among_all R x [] h m = absurd m
among_all R x (y ∷ ys) h (inl e) = subst R (sym e) h.0
among_all R x (y ∷ ys) h (inr m) = among_all R x ys h.1 m

pub all_map : {A : Type 0} (P Q : A → Type 0) → ((x : A) → P x → Q x) → (xs : List A) → AllByRecursion P xs → AllByRecursion Q xs
all_map P Q f [] h = tt
all_map P Q f (x ∷ xs) h = (f x h.0, all_map P Q f xs h.1)

pub all_split : {A : Type 0} (P : A → Type 0) (xs ys : List A) → AllByRecursion P (xs ++ ys) → AllByRecursion P xs × AllByRecursion P ys
all_split P [] ys h = (tt, h)
all_split P (x ∷ xs) ys h = let r = all_split P xs ys h.1 in ((h.0, r.0), r.1)

-- an item that passes a test, where each item has a property
pub any_all : {A : Type 0} (p : A → Bool) (Q : A → Type 0) (xs : List A) → list_any p xs ≡ true → AllByRecursion Q xs → (x : A) × (p x ≡ true) × Q x
any_all p Q [] h all = absurd (cc h)
any_all {A = A} p Q (x ∷ xs) h all = by (p x) refl h (λ found. any_all p Q xs found all.1)
  where
    by : (b : Bool) → p x ≡ b → (b || list_any p xs) ≡ true → (list_any p xs ≡ true → (y : A) × (p y ≡ true) × Q y) → (y : A) × (p y ≡ true) × Q y
    by true is h rest = (x, is, all.0)
    by false is h rest = rest h
