-- Walks over the entries of an ordered map: the first one, those that a test keeps, and how many there are.
use Rattle.std.specs.Prelude.{◌*◌, ◌^◌, if◌then◌else◌, nat_le, Ok, Err, IfOk, OnErr, ◌≡◌, ◌<◌, ◌≤◌, ◌↔◌, ℕ, ◌+◌, ◌-◌, List, [], ◌∷◌, ◌++◌, Bool, true, false, cond, ◌&&◌, Some, None, IsSome, IfSome, IfNone, is_some, filter, length, map, drop, take, slice_get}
use Rattle.std.proofs.Common.{zero, suc, refl, sym, ◌∙◌, ap, arith, append_assoc, length-append}
use Rattle.std.proofs.lemmas.Bool.Decides.{nat_tests}
use Rattle.std.proofs.lemmas.List.{append-nil}
use Rattle.std.specs.declared.result.Result.{Result}
use Rattle.std.specs.declared.option.Option.{Option}
use Rattle.std.specs.Map.{keys_of}
use Rattle.master_recovery.specs.Places.{keep, kept}

abbrev pub none_of : (Y : Type 0) → Option Y
none_of Y = None

module _ {K X : Type 0} where
  pub first_key : (es : List (K × X)) (k : K) (v : X) → slice_get es 0 ≡ Some (k, v) → slice_get (keys_of es) 0 ≡ Some k
  first_key [] k v h = absurd (cc h)
  first_key (e ∷ es) k v h = let h : Some e ≡ Some (k, v) = h in cc h

  pub no_key : (Y : Type 0) (es : List (K × X)) → (IsSome (none_of Y) ↔ (0 < length es)) → slice_get (keys_of es) 0 ≡ None
  no_key Y [] h = refl
  no_key Y (e ∷ es) h = absurd (cc (h.1 (omega arith)))

  pub popped : (r : Option (K × X)) (old new : List (K × X)) → IfSome r (λ p. old ≡ p ∷ new) → IfNone r (new ≡ old) → (IsSome r ↔ (0 < length old)) → keys_of new ≡ drop 1 (keys_of old)
  popped (Some p) old new some none v = ap (λ es. drop 1 (keys_of es)) (sym some)
  popped None [] new some none v = ap keys_of none
  popped None (e ∷ es) new some none v = absurd (cc (v.1 (omega arith)))

-- the entries that have a value, of those that a test of the keys keeps
abbrev pub where_open : {K X : Type 0} → (K → Bool) → List (K × Option X) → List (K × X)
where_open q es = filter (λ e. q e.0) (kept es)

pub open_keys : {K X : Type 0} (q : K → Bool) (es : List (K × Option X)) → keys_of (filter (λ e. is_some e.1 && q e.0) es) ≡ keys_of (where_open q es)
open_keys q [] = refl
open_keys {X} q (e ∷ es) = by e.1 (open_keys q es)
  where
    kept_if : (v : X) (b : Bool) → keys_of (filter (λ e. is_some e.1 && q e.0) es) ≡ keys_of (where_open q es)
        → keys_of (cond b (e ∷ filter (λ e. is_some e.1 && q e.0) es) (filter (λ e. is_some e.1 && q e.0) es)) ≡ keys_of (cond b ((e.0, v) ∷ where_open q es) (where_open q es))
    kept_if v true rest = ap (λ l. e.0 ∷ l) rest
    kept_if v false rest = rest

    by : (o : Option X) → keys_of (filter (λ e. is_some e.1 && q e.0) es) ≡ keys_of (where_open q es)
        → keys_of (cond (is_some o && q e.0) (e ∷ filter (λ e. is_some e.1 && q e.0) es) (filter (λ e. is_some e.1 && q e.0) es)) ≡ keys_of (filter (λ e. q e.0) (keep e.0 o (kept es)))
    by None rest = rest
    by (Some v) rest = kept_if v (q e.0) rest

-- ---- how many there are, and a part of them

pub count_some : {K X : Type 0} (its rest : List (K × Option X)) (e : K × Option X) (count total : ℕ) → its ≡ e ∷ rest → is_some e.1 ≡ true
    → count + length (kept its) ≡ total → (count + 1) + length (kept rest) ≡ total
count_some {X} its rest e count total is some h = by e.1 some (sym (ap (λ l. count + length (kept l)) is) ∙ h)
  where
    by : (o : Option X) → is_some o ≡ true → count + length (keep e.0 o (kept rest)) ≡ total → (count + 1) + length (kept rest) ≡ total
    by None some h = absurd (cc some)
    by (Some v) some h = omega (arith, h)

pub count_none : {K X : Type 0} (its rest : List (K × Option X)) (e : K × Option X) (count total : ℕ) → its ≡ e ∷ rest → is_some e.1 ≡ false
    → count + length (kept its) ≡ total → count + length (kept rest) ≡ total
count_none {X} its rest e count total is none h = by e.1 none (sym (ap (λ l. count + length (kept l)) is) ∙ h)
  where
    by : (o : Option X) → is_some o ≡ false → count + length (keep e.0 o (kept rest)) ≡ total → count + length (kept rest) ≡ total
    by None none h = h
    by (Some v) none h = absurd (cc none)

pub kept_most : {K X : Type 0} (es : List (K × Option X)) → length (kept es) ≤ length es
kept_most [] = omega arith
kept_most {X} (e ∷ es) = by e.1 (kept_most es)
  where
    by : (o : Option X) → length (kept es) ≤ length es → length (keep e.0 o (kept es)) ≤ length (e ∷ es)
    by None h = omega (arith, h)
    by (Some v) h = omega (arith, h)

pub length_map : {A B : Type 0} (f : A → B) (xs : List A) → length (map f xs) ≡ length xs
length_map f [] = refl
length_map f (x ∷ xs) = omega (arith, length_map f xs)

-- ---- what is taken and left

takes_more : {A : Type 0} (list xs target : List A) (x : A) (m n : ℕ) → m ≡ suc n → list ++ take m (x ∷ xs) ≡ target → (list ++ x ∷ []) ++ take n xs ≡ target
takes_more list xs target x m n is h = append_assoc list (x ∷ []) (take n xs) ∙ sym (ap (λ k. list ++ take k (x ∷ xs)) is) ∙ h

pub takes : {A : Type 0} (most : ℕ) (list : List A) (skip : ℕ) (x : A) (xs target : List A) → skip ≡ 0 → length list < most
    → list ++ take (most - length list) (drop skip (x ∷ xs)) ≡ target → (list ++ x ∷ []) ++ take (most - length (list ++ x ∷ [])) (drop skip xs) ≡ target
takes most list skip x xs target none few h =
    ap (λ n. (list ++ x ∷ []) ++ take (most - length (list ++ x ∷ [])) (drop n xs)) none
    ∙ takes_more list xs target x (most - length list) (most - length (list ++ x ∷ [])) (omega (arith, few, length-append list (x ∷ [])))
    (sym (ap (λ n. list ++ take (most - length list) (drop n (x ∷ xs))) none) ∙ h)

pub is_full : {A : Type 0} (most : ℕ) (list xs ys target : List A) (skip : ℕ) → most ≤ length list
    → list ++ take (most - length list) xs ≡ target → list ++ take (most - length list) (drop skip ys) ≡ target
is_full most list xs ys target skip full h =
    let none : most - length list ≡ 0 = omega (arith, full) in
    ap (λ n. list ++ take n (drop skip ys)) none ∙ sym (ap (λ n. list ++ take n xs) none) ∙ h

pub done : {A : Type 0} (list : List A) (n skip : ℕ) (xs target : List A) → xs ≡ [] → list ++ take n (drop skip xs) ≡ target → list ≡ target
done list n skip xs target is h = sym (ap (λ ys. list ++ ys) (ap (λ ys. take n (drop skip ys)) is ∙ nothing_left n skip) ∙ append-nil list) ∙ h
  where
    take_none : {A : Type 0} (n : ℕ) → take {A = A} n [] ≡ []
    take_none zero = refl
    take_none (suc n) = refl

    nothing_left : {A : Type 0} (n skip : ℕ) → take n (drop {A = A} skip []) ≡ []
    nothing_left n zero = take_none n
    nothing_left n (suc skip) = take_none n

-- ---- numbers

-- Where a place was taken before, there are as many as before.
pub as_many : {X E : Type 0} (r : Result (Option X) E) (had : Option X) (new old : ℕ) → IfOk r (λ o. o ≡ had) → IfOk r (λ o. new ≡ old + (if is_some o then 0 else 1)) → OnErr r (had ≡ None) → IsSome had → new ≡ old
as_many (Ok o) had new old is len absent some =
    let same : new ≡ old + 0 = len ∙ ap (λ b. old + (if b then 0 else 1)) (ap is_some is ∙ some) in omega (arith, same)
as_many (Err e) had new old is len absent some = absurd (cc (sym some ∙ ap is_some absent))

-- A part after which there is another one has a small number.
pub next_fits : (rest : Bool) (count part : ℕ) → rest ≡ nat_le count (part * 65536) → rest ≡ false → count ≤ 2 ^ 32 → part + 1 < 2 ^ 32
next_fits rest count part is more most = few count part (sym is ∙ more) most
  where
    few : (count part : ℕ) → nat_le count (part * 65536) ≡ false → count ≤ 2 ^ 32 → part + 1 < 2 ^ 32
    few count part more most = grind (arith, nat_tests)
