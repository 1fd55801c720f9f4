-- Bytes put over others, as far as there are any.
use Rattle.std.proofs.Common.{◌≡◌, ◌∙◌, ℕ, zero, suc, ◌+◌, ◌-◌, ◌≤◌, min, List, [], ◌∷◌, ◌++◌, length, take, drop, replicate, refl, sym, ap, arith, take-append-drop}
use Rattle.std.proofs.lemmas.List.{take_min, drop_min, take-replicate, length-replicate}
use Rattle.std.proofs.lemmas.Slice.{take-put_mid, drop-put_mid}
use borrow.Rule.Slice.PartMut.{put_mid}
use Rattle.tm_disks.specs.MemoryDisk.{over, put}

over_clamped : (store bytes : List ℕ) → over store bytes ≡ take (length store) bytes ++ drop (length bytes) store
over_clamped [] [] = refl
over_clamped (s ∷ store) [] = refl
over_clamped [] (b ∷ bytes) = refl
over_clamped (s ∷ store) (b ∷ bytes) = ap (λ (l : List ℕ). b ∷ l) (over_clamped store bytes)

drop_nil : (n : ℕ) → drop {A = ℕ} n [] ≡ []
drop_nil zero = refl
drop_nil (suc n) = refl

put_clamped : (k : ℕ) (store : List ℕ) (at : ℕ) (bytes : List ℕ) → k ≡ at + length bytes → put store at bytes ≡ take at store ++ take (length store - at) bytes ++ drop k store
put_clamped k store zero bytes is =
    let all : length store ≡ length store - 0 = omega arith in let same : length bytes ≡ k = omega (arith, is) in
    over_clamped store bytes ∙ (λ i. take (all i) bytes ++ drop (same i) store)
put_clamped k [] (suc at) bytes is = let none : 0 - suc at ≡ 0 = omega arith in λ i. take (sym none i) bytes ++ sym (drop_nil k) i
put_clamped zero (s ∷ store) (suc at) bytes is = absurd (omega (arith, is))
put_clamped (suc k) (s ∷ store) (suc at) bytes is =
    let same : length store - at ≡ length (s ∷ store) - suc at = omega arith in
    ap (λ (l : List ℕ). s ∷ l) (put_clamped k store at bytes (omega (arith, is))) ∙ (λ i. s ∷ (take at store ++ take (same i) bytes ++ drop k store))

pub put_parts : (store : List ℕ) (at : ℕ) (bytes : List ℕ) (start count : ℕ) → start ≡ min at (length store) → count ≡ min (length bytes) (length store - start)
    → take start store ++ take count bytes ++ drop (start + count) store ≡ put store at bytes
put_parts store at bytes start count is_start is_count =
    let front : take start store ≡ take at store = ap (λ (n : ℕ). take n store) is_start ∙ take_min at store in
    let few : count ≡ min (length store - at) (length bytes) = omega (arith, is_start, is_count) in
    let middle : take count bytes ≡ take (length store - at) bytes = ap (λ (n : ℕ). take n bytes) few ∙ take_min (length store - at) bytes in
    let far : start + count ≡ min (at + length bytes) (length store) = omega (arith, is_start, is_count) in
    let back : drop (start + count) store ≡ drop (at + length bytes) store = ap (λ (n : ℕ). drop n store) far ∙ drop_min (at + length bytes) store in
    (λ i. front i ++ middle i ++ back i) ∙ sym (put_clamped (at + length bytes) store at bytes refl)

pub fill_parts : (store : List ℕ) (at n : ℕ) (start count : ℕ) → start ≡ min at (length store) → count ≡ min n (length store - start)
    → take start store ++ replicate count 255 ++ drop (start + count) store ≡ put store at (replicate n 255)
fill_parts store at n start count is_start is_count =
    let long = length-replicate {A = ℕ} n 255 in
    ap (λ (l : List ℕ). take start store ++ l ++ drop (start + count) store) (sym (take-replicate count n 255 (omega (arith, is_count))))
    ∙ put_parts store at (replicate n 255) start count is_start (omega (arith, is_count, long))

-- a part that was written
pub mid_parts : (a k : ℕ) (xs ys : List ℕ) → a ≤ length xs → length ys ≡ k → put_mid a k xs ys ≡ take a xs ++ ys ++ drop (a + k) xs
mid_parts a k xs ys le is =
    let end : a + k ≡ a + length ys = omega (arith, is) in
    sym (take-append-drop (a + k) (put_mid a k xs ys))
    ∙ (λ i. take-put_mid a k xs ys (a + k) end le i ++ drop-put_mid a k xs ys (a + k) (omega arith) le is i)
