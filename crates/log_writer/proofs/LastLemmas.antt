-- The last group of a log is dropped.
use Rattle.std.proofs.Common.{◌≡◌, ◌≤◌, ◌+◌, ◌-◌, ℕ, Bool, true, false, cond, List, [], ◌∷◌, ◌++◌, length, take, suc, zero, min, refl, sym, subst, ap, ◌∙◌, arith}
use Rattle.std.specs.List.{prefix_len}
use Rattle.tm_data.specs.declared.log.Group.{Group}
use Rattle.tm_data.specs.declared.transaction.Writer.{Writer}
use Rattle.log_writer.specs.declared.logged.Logged.{Logged}
use Rattle.log_writer.specs.Acks.{has}
use Rattle.log_writer.specs.Inside.{IsKept}
use Rattle.log_writer.specs.Log.{InOrder, Log, appended, reached, unacknowledged}
use Rattle.log_writer.specs.TakenBack.{without_last}

-- A prefix of a front is no longer than the front.
prefix_front : {X : Type 0} (p : X → Bool) (xs : List X) (n : ℕ) → prefix_len p (take n xs) ≡ min (prefix_len p xs) n
prefix_front p xs zero = omega arith
prefix_front p [] (suc n) = omega arith
prefix_front p (x ∷ xs) (suc n) = by (p x) (prefix_front p xs n)
  where
    by : (b : Bool) → prefix_len p (take n xs) ≡ min (prefix_len p xs) n → cond b (1 + prefix_len p (take n xs)) 0 ≡ min (cond b (1 + prefix_len p xs) 0) (suc n)
    by true rest = omega (arith, rest)
    by false rest = omega arith

order_front : (writer : Writer) (seq after : ℕ) (groups : List Logged) (n : ℕ) → InOrder writer seq after groups → InOrder writer seq after (take n groups)
order_front writer seq after groups zero h = tt
order_front writer seq after [] (suc n) h = tt
order_front writer seq after (l ∷ ls) (suc n) h = (h.0, h.1, h.2, order_front writer (seq + 1) l.group.stamp.0 ls n h.3)

short_front : {X : Type 0} (xs : List X) (n : ℕ) → length (take n xs) ≤ length xs
short_front xs zero = omega arith
short_front [] (suc n) = omega arith
short_front (x ∷ xs) (suc n) = omega (arith, short_front xs n)

reached_front : (groups : List Logged) (store n from : ℕ) → from ≡ reached groups store → min from n ≡ reached (take n groups) store
reached_front groups store n from is = omega (arith, is, prefix_front (λ (l : Logged). has l.acks store) groups n)

pub kept_front : (writer : Writer) (gone before : ℕ) (old new : List Logged) (n first second third first' second' third' : ℕ) → IsKept writer gone before old first second third → new ≡ take n old
    → first' ≡ min first n → second' ≡ min second n → third' ≡ min third n → IsKept writer gone before new first' second' third'
kept_front writer gone before old new n first second third first' second' third' kept is one two three =
    subst (λ (ls : List Logged). IsKept writer gone before ls first' second' third') (sym is) (record {
      order = order_front writer (gone + 1) before old n kept.order;
      short = omega (arith, kept.short, short_front old n);
      first_is = one ∙ reached_front old 1 n first kept.first_is;
      second_is = two ∙ reached_front old 2 n second kept.second_is;
      third_is = three ∙ reached_front old 3 n third kept.third_is;
    })

-- All but the one that was added.
front_of_more : {X : Type 0} (xs : List X) (x : X) → take (length (xs ++ x ∷ []) - 1) (xs ++ x ∷ []) ≡ xs
front_of_more [] x = refl
front_of_more (y ∷ ys) x = by (length (ys ++ x ∷ [])) (some ys x) (front_of_more ys x)
  where
    some : {X : Type 0} (zs : List X) (z : X) → 1 ≤ length (zs ++ z ∷ [])
    some [] z = omega arith
    some (y ∷ zs) z = omega arith

    by : (n : ℕ) → 1 ≤ n → take (n - 1) (ys ++ x ∷ []) ≡ ys → take (suc n - 1) (y ∷ (ys ++ x ∷ [])) ≡ y ∷ ys
    by zero less rest = absurd (omega (arith, less))
    by (suc n) less rest =
        let behind : suc n - 1 ≡ n = omega arith in
        let whole : suc (suc n) - 1 ≡ suc n = omega arith in
        ap (λ (k : ℕ). take k (y ∷ (ys ++ x ∷ []))) whole ∙ ap (λ l. y ∷ l) (ap (λ (k : ℕ). take k (ys ++ x ∷ [])) (sym behind) ∙ rest)

pub dropped_whole : (log : Log) (group : Group) → without_last (appended log group) ≡ log
dropped_whole log group = ap (λ (ls : List Logged). record log { groups = ls }) (front_of_more log.groups (unacknowledged group))
