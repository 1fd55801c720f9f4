-- What is under a number of a table.
use Rattle.std.proofs.Common.{◌≡◌, ℕ, suc, Bool, true, false, List, [], ◌∷◌, Some, None, refl, ap, sym, cond, arith}
use Rattle.std.specs.Prelude.{nat_eq, map, if◌then◌else◌, length, ◌+◌}
use Rattle.std.specs.Option.{option_map}
use Rattle.std.proofs.lemmas.Bool.Decides.{nat_tests}
use Rattle.lock_model.specs.State.{at, put}

module _ {X : Type 0} where
  put_next : (e : ℕ × X) (es : List (ℕ × X)) (k : ℕ) (x : X) (q : ℕ) (b : Bool) → nat_eq k e.0 ≡ b → at (put es k x) q ≡ cond (nat_eq q k) (Some x) (at es q)
      → at (if b then (e.0, x) ∷ es else e ∷ put es k x) q ≡ cond (nat_eq q k) (Some x) (at (e ∷ es) q)
  put_next e es k x q true is rest = grind (arith, nat_tests)
  put_next e es k x q false is rest = grind (arith, nat_tests)

  -- The entry that was put, or the one that was there.
  pub put_at : (es : List (ℕ × X)) (k : ℕ) (x : X) (q : ℕ) → at (put es k x) q ≡ cond (nat_eq q k) (Some x) (at es q)
  put_at [] k x q = refl
  put_at (e ∷ es) k x q = put_next e es k x q (nat_eq k e.0) refl (put_at es k x q)

  -- Entries that are made anew in their places.
  map_next : (f : ℕ → X → X) (e : ℕ × X) (es : List (ℕ × X)) (q : ℕ) (b : Bool) → nat_eq q e.0 ≡ b
      → at (map (λ x. (x.0, f x.0 x.1)) es) q ≡ option_map (f q) (at es q)
      → cond b (Some (f e.0 e.1)) (at (map (λ x. (x.0, f x.0 x.1)) es) q) ≡ option_map (f q) (cond b (Some e.1) (at es q))
  map_next f e es q true is rest = let same : e.0 ≡ q = grind (arith, nat_tests) in ap (λ n. Some (f n e.1)) same
  map_next f e es q false is rest = rest

  pub map_at : (f : ℕ → X → X) (es : List (ℕ × X)) (q : ℕ) → at (map (λ x. (x.0, f x.0 x.1)) es) q ≡ option_map (f q) (at es q)
  map_at f [] q = refl
  map_at f (e ∷ es) q = map_next f e es q (nat_eq q e.0) refl (map_at f es q)

  -- How many entries there are then.
  known_next : (e : ℕ × X) (es : List (ℕ × X)) (k : ℕ) (x y : X) (b : Bool) → nat_eq k e.0 ≡ b → cond b (Some e.1) (at es k) ≡ Some y
      → (at es k ≡ Some y → length (put es k x) ≡ length es) → length (if b then (e.0, x) ∷ es else e ∷ put es k x) ≡ length (e ∷ es)
  known_next e es k x y true is found rest = refl
  known_next e es k x y false is found rest = ap suc (rest found)

  pub length_known : (es : List (ℕ × X)) (k : ℕ) (x y : X) → at es k ≡ Some y → length (put es k x) ≡ length es
  length_known [] k x y found = absurd (cc found)
  length_known (e ∷ es) k x y found = known_next e es k x y (nat_eq k e.0) refl found (length_known es k x y)

  new_next : (e : ℕ × X) (es : List (ℕ × X)) (k : ℕ) (x : X) (b : Bool) → nat_eq k e.0 ≡ b → cond b (Some e.1) (at es k) ≡ None
      → (at es k ≡ None → length (put es k x) ≡ length es + 1) → length (if b then (e.0, x) ∷ es else e ∷ put es k x) ≡ length (e ∷ es) + 1
  new_next e es k x true is found rest = absurd (cc found)
  new_next e es k x false is found rest = let r = rest found in omega arith

  pub length_new : (es : List (ℕ × X)) (k : ℕ) (x : X) → at es k ≡ None → length (put es k x) ≡ length es + 1
  length_new [] k x found = refl
  length_new (e ∷ es) k x found = new_next e es k x (nat_eq k e.0) refl found (length_new es k x)

  -- An entry that is put again changes nothing.
  same_next : (e : ℕ × X) (es : List (ℕ × X)) (k : ℕ) (x : X) (b : Bool) → nat_eq k e.0 ≡ b → cond b (Some e.1) (at es k) ≡ Some x
      → (at es k ≡ Some x → put es k x ≡ es) → (if b then (e.0, x) ∷ es else e ∷ put es k x) ≡ e ∷ es
  same_next e es k x true is found rest = let one : e.1 ≡ x = cc found in ap (λ (y : X). (e.0, y) ∷ es) (sym one)
  same_next e es k x false is found rest = ap (λ (t : List (ℕ × X)). e ∷ t) (rest found)

  pub put_same : (es : List (ℕ × X)) (k : ℕ) (x : X) → at es k ≡ Some x → put es k x ≡ es
  put_same [] k x found = absurd (cc found)
  put_same (e ∷ es) k x found = same_next e es k x (nat_eq k e.0) refl found (put_same es k x)
