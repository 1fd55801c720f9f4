-- Bytes put over others, and what is the same outside of them.
use Rattle.std.proofs.Common.{◌≡◌, ◌∙◌, ℕ, zero, suc, ◌+◌, ◌-◌, ◌≤◌, max, List, [], ◌∷◌, ◌++◌, length, take, drop, refl, sym, ap, arith, length-take, length-append}
use Rattle.std.proofs.lemmas.List.{take-take}
use Rattle.tm_disks.specs.Disk.{Torn, Cut, Holds}
use Rattle.tm_disks.specs.MemoryDisk.{File, over, put, seen_in}

over_is : (store bytes : List ℕ) → length bytes ≤ length store → over store bytes ≡ bytes ++ drop (length bytes) store
over_is store [] le = refl
over_is [] (b ∷ bytes) le = absurd (omega arith)
over_is (s ∷ store) (b ∷ bytes) le = ap (λ (l : List ℕ). b ∷ l) (over_is store bytes (omega arith))

pub put_is : (k : ℕ) (store : List ℕ) (at : ℕ) (bytes : List ℕ) → k ≡ at + length bytes → k ≤ length store → put store at bytes ≡ take at store ++ bytes ++ drop k store
put_is k store zero bytes is le =
    let same : length bytes ≡ k = omega (arith, is) in over_is store bytes (omega (arith, is, le)) ∙ ap (λ (n : ℕ). bytes ++ drop n store) same
put_is k [] (suc at) bytes is le = absurd (omega (arith, is, le))
put_is zero (s ∷ store) (suc at) bytes is le = absurd (omega (arith, is))
put_is (suc k) (s ∷ store) (suc at) bytes is le = ap (λ (l : List ℕ). s ∷ l) (put_is k store at bytes (omega (arith, is)) (omega (arith, le)))

length-over : (store bytes : List ℕ) → length (over store bytes) ≡ length store
length-over store [] = refl
length-over [] (b ∷ bytes) = refl
length-over (s ∷ store) (b ∷ bytes) = ap (λ (n : ℕ). suc n) (length-over store bytes)

pub length-put : (store : List ℕ) (at : ℕ) (bytes : List ℕ) → length (put store at bytes) ≡ length store
length-put store zero bytes = length-over store bytes
length-put [] (suc at) bytes = refl
length-put (s ∷ store) (suc at) bytes = ap (λ (n : ℕ). suc n) (length-put store at bytes)

-- what was overwritten is put back
over_back : (store bytes : List ℕ) → over (over store bytes) (take (length bytes) store) ≡ store
over_back store [] = refl
over_back [] (b ∷ bytes) = refl
over_back (s ∷ store) (b ∷ bytes) = ap (λ (l : List ℕ). s ∷ l) (over_back store bytes)

pub put_back : (store : List ℕ) (at : ℕ) (bytes : List ℕ) → put (put store at bytes) at (take (length bytes) (drop at store)) ≡ store
put_back store zero bytes = over_back store bytes
put_back [] (suc at) bytes = refl
put_back (s ∷ store) (suc at) bytes = ap (λ (l : List ℕ). s ∷ l) (put_back store at bytes)

-- the same but in the n places from `at` on
abbrev pub Agree : ℕ → ℕ → List ℕ → List ℕ → Type 0
Agree (suc at) n (x ∷ s) (y ∷ t) = (x ≡ y) × Agree at n s t
Agree (suc at) n [] [] = Unit {0}
Agree (suc at) n [] (y ∷ t) = ⊥
Agree (suc at) n (x ∷ s) [] = ⊥
Agree zero (suc n) (x ∷ s) (y ∷ t) = Agree zero n s t
Agree zero (suc n) [] [] = Unit {0}
Agree zero (suc n) [] (y ∷ t) = ⊥
Agree zero (suc n) (x ∷ s) [] = ⊥
Agree zero zero s t = s ≡ t

pub agree_same : (at n : ℕ) (s : List ℕ) → Agree at n s s
agree_same (suc at) n [] = tt
agree_same (suc at) n (x ∷ s) = (refl, agree_same at n s)
agree_same zero (suc n) [] = tt
agree_same zero (suc n) (x ∷ s) = agree_same zero n s
agree_same zero zero s = refl

-- another range of the same place written on one side
agree_over : (n : ℕ) (s t bytes : List ℕ) → Agree zero n s t → length bytes ≤ n → Agree zero n s (over t bytes)
agree_over n s t [] a le = a
agree_over zero s t (b ∷ bytes) a le = absurd (omega arith)
agree_over (suc n) [] [] (b ∷ bytes) a le = tt
agree_over (suc n) [] (y ∷ t) (b ∷ bytes) a le = a
agree_over (suc n) (x ∷ s) [] (b ∷ bytes) a le = a
agree_over (suc n) (x ∷ s) (y ∷ t) (b ∷ bytes) a le = agree_over n s t bytes a (omega arith)

pub agree_put : (at n : ℕ) (s t bytes : List ℕ) → Agree at n s t → length bytes ≤ n → Agree at n s (put t at bytes)
agree_put zero n s t bytes a le = agree_over n s t bytes a le
agree_put (suc at) n [] [] bytes a le = tt
agree_put (suc at) n [] (y ∷ t) bytes a le = absurd a
agree_put (suc at) n (x ∷ s) [] bytes a le = absurd a
agree_put (suc at) n (x ∷ s) (y ∷ t) bytes a le = (a.0, agree_put at n s t bytes a.1 le)

-- the same written on both sides, wherever it is
agree_both_over : (at n : ℕ) (s t bytes : List ℕ) → Agree at n s t → Agree at n (over s bytes) (over t bytes)
agree_both_over at n s t [] a = a
agree_both_over (suc at) n [] [] (b ∷ bytes) a = tt
agree_both_over (suc at) n [] (y ∷ t) (b ∷ bytes) a = absurd a
agree_both_over (suc at) n (x ∷ s) [] (b ∷ bytes) a = absurd a
agree_both_over (suc at) n (x ∷ s) (y ∷ t) (b ∷ bytes) a = (refl, agree_both_over at n s t bytes a.1)
agree_both_over zero (suc n) [] [] (b ∷ bytes) a = tt
agree_both_over zero (suc n) [] (y ∷ t) (b ∷ bytes) a = absurd a
agree_both_over zero (suc n) (x ∷ s) [] (b ∷ bytes) a = absurd a
agree_both_over zero (suc n) (x ∷ s) (y ∷ t) (b ∷ bytes) a = agree_both_over zero n s t bytes a
agree_both_over zero zero s t (b ∷ bytes) a = ap (λ (l : List ℕ). over l (b ∷ bytes)) a

pub agree_both : (at n : ℕ) (s t : List ℕ) (p : ℕ) (bytes : List ℕ) → Agree at n s t → Agree at n (put s p bytes) (put t p bytes)
agree_both at n s t zero bytes a = agree_both_over at n s t bytes a
agree_both (suc at) n [] [] (suc p) bytes a = tt
agree_both (suc at) n [] (y ∷ t) (suc p) bytes a = absurd a
agree_both (suc at) n (x ∷ s) [] (suc p) bytes a = absurd a
agree_both (suc at) n (x ∷ s) (y ∷ t) (suc p) bytes a = (a.0, agree_both at n s t p bytes a.1)
agree_both zero (suc n) [] [] (suc p) bytes a = tt
agree_both zero (suc n) [] (y ∷ t) (suc p) bytes a = absurd a
agree_both zero (suc n) (x ∷ s) [] (suc p) bytes a = absurd a
agree_both zero (suc n) (x ∷ s) (y ∷ t) (suc p) bytes a = agree_both zero n s t p bytes a
agree_both zero zero s t (suc p) bytes a = ap (λ (l : List ℕ). put l (suc p) bytes) a

pub agree_front : (at n : ℕ) (s t : List ℕ) → Agree at n s t → take at t ≡ take at s
agree_front zero n s t a = refl
agree_front (suc at) n [] [] a = refl
agree_front (suc at) n [] (y ∷ t) a = absurd a
agree_front (suc at) n (x ∷ s) [] a = absurd a
agree_front (suc at) n (x ∷ s) (y ∷ t) a = λ i. sym a.0 i ∷ agree_front at n s t a.1 i

pub agree_back : (k at n : ℕ) (s t : List ℕ) → k ≡ at + n → Agree at n s t → drop k t ≡ drop k s
agree_back zero zero zero s t is a = sym a
agree_back zero zero (suc n) s t is a = absurd (omega (arith, is))
agree_back zero (suc at) n s t is a = absurd (omega (arith, is))
agree_back (suc k) zero zero s t is a = absurd (omega (arith, is))
agree_back (suc k) zero (suc n) [] [] is a = refl
agree_back (suc k) zero (suc n) [] (y ∷ t) is a = absurd a
agree_back (suc k) zero (suc n) (x ∷ s) [] is a = absurd a
agree_back (suc k) zero (suc n) (x ∷ s) (y ∷ t) is a = agree_back k zero n s t (omega (arith, is)) a
agree_back (suc k) (suc at) n [] [] is a = refl
agree_back (suc k) (suc at) n [] (y ∷ t) is a = absurd a
agree_back (suc k) (suc at) n (x ∷ s) [] is a = absurd a
agree_back (suc k) (suc at) n (x ∷ s) (y ∷ t) is a = agree_back k at n s t (omega (arith, is)) a.1

pub agree_length : (at n : ℕ) (s t : List ℕ) → Agree at n s t → length t ≡ length s
agree_length zero zero s t a = ap length (sym a)
agree_length zero (suc n) [] [] a = refl
agree_length zero (suc n) [] (y ∷ t) a = absurd a
agree_length zero (suc n) (x ∷ s) [] a = absurd a
agree_length zero (suc n) (x ∷ s) (y ∷ t) a = ap (λ (k : ℕ). suc k) (agree_length zero n s t a)
agree_length (suc at) n [] [] a = refl
agree_length (suc at) n [] (y ∷ t) a = absurd a
agree_length (suc at) n (x ∷ s) [] a = absurd a
agree_length (suc at) n (x ∷ s) (y ∷ t) a = ap (λ (k : ℕ). suc k) (agree_length at n s t a.1)

take_nil : (n : ℕ) → take {A = ℕ} n [] ≡ []
take_nil zero = refl
take_nil (suc n) = refl

pub drop_of_take : (k m : ℕ) (l : List ℕ) → drop k (take m l) ≡ take (m - k) (drop k l)
drop_of_take zero m l = let e : m - 0 ≡ m = omega arith in ap (λ (n : ℕ). take n l) (sym e)
drop_of_take (suc k) zero l = let e : 0 - suc k ≡ 0 = omega arith in ap (λ (n : ℕ). take n (drop (suc k) l)) (sym e)
drop_of_take (suc k) (suc m) [] = sym (take_nil (suc m - suc k))
drop_of_take (suc k) (suc m) (x ∷ l) = let e : suc m - suc k ≡ m - k = omega arith in drop_of_take k m l ∙ ap (λ (n : ℕ). take n (drop k l)) (sym e)

-- a file that is the same but in the n places from `at` on, and may be longer by them
pub record Wider (at n : ℕ) (f g : File) : Type 0 where
  pub agree : Agree at n f.store g.store
  pub inside : at ≤ f.size
  pub wider : f.size ≤ g.size
  pub no_wider : g.size ≤ max f.size (at + n)

pub torn_of : (at n : ℕ) (f g : File) → Wider at n f g → Torn at n (seen_in f) (seen_in g)
torn_of at n f g w =
    let ends : g.size - (at + n) ≡ f.size - (at + n) = omega (arith, w.wider, w.no_wider) in
    let long = agree_length at n f.store g.store w.agree in
    let fs = length-take f.size f.store in
    let gs = length-take g.size g.store in
    record {
      before =
          take-take at g.size g.store (omega (arith, w.inside, w.wider)) ∙ agree_front at n f.store g.store w.agree
          ∙ sym (take-take at f.size f.store w.inside);
      after =
          drop_of_take (at + n) g.size g.store ∙ ap (λ (l : List ℕ). take (g.size - (at + n)) l) (agree_back (at + n) at n f.store g.store refl w.agree)
          ∙ ap (λ (k : ℕ). take k (drop (at + n) f.store)) ends ∙ sym (drop_of_take (at + n) f.size f.store);
      no_shorter = omega (arith, fs, gs, long, w.wider);
      no_longer = omega (arith, fs, gs, long, w.no_wider);
    }

pub torn_same : (at n : ℕ) (c : List ℕ) → Torn at n c c
torn_same at n c = record { before = refl; after = refl; no_shorter = omega arith; no_longer = omega arith }

pub cut_same : (n : ℕ) (c : List ℕ) → Cut n c c
cut_same n c = record { front = refl; no_shorter = omega arith; no_longer = omega arith }

pub cut_of : (n : ℕ) (f : File) → n ≤ f.size → Cut n (seen_in f) (take n f.store)
cut_of n f le =
    let fs = length-take f.size f.store in
    let ns = length-take n f.store in
    record {
      front = take-take n n f.store (omega arith) ∙ sym (take-take n f.size f.store le);
      no_shorter = omega (arith, fs, ns, le);
      no_longer = omega (arith, fs, ns, le);
    }

pub take_past : (xs ys : List ℕ) (m n : ℕ) → m ≡ length xs + n → take m (xs ++ ys) ≡ xs ++ take n ys
take_past [] ys m n is = let same : m ≡ n = omega (arith, is) in ap (λ (k : ℕ). take k ys) same
take_past (x ∷ xs) ys zero n is = absurd (omega (arith, is))
take_past (x ∷ xs) ys (suc m) n is = ap (λ (l : List ℕ). x ∷ l) (take_past xs ys m n (omega (arith, is)))

-- a written file has the bytes
pub seen_put : (f : File) (at : ℕ) (bytes : List ℕ) → at ≤ f.size → f.size ≤ length f.store → at + length bytes ≤ length f.store
    → Holds (seen_in f) at bytes (take (max f.size (at + length bytes)) (put f.store at bytes))
seen_put f at bytes inside whole fits =
    let n = length bytes in
    let m = max f.size (at + n) in
    let k = f.size - (at + n) in
    let front : length (take at f.store) ≡ at = omega (arith, length-take at f.store, inside, whole) in
    let back : drop (at + n) (take f.size f.store) ≡ take k (drop (at + n) f.store) = drop_of_take (at + n) f.size f.store in
    let both : length (take at f.store ++ bytes) ≡ at + n = omega (arith, front, length-append (take at f.store) bytes) in
    ap (λ (l : List ℕ). take m l) (put_is (at + n) f.store at bytes refl fits)
    ∙ take_past (take at f.store ++ bytes) (drop (at + n) f.store) m k (omega (arith, both))
    ∙ (λ i. sym (take-take at f.size f.store inside) i ++ bytes ++ sym back i)
