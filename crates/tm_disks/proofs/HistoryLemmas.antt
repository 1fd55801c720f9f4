-- The newest change, from the end of the marks and of the kept bytes.
use Rattle.std.proofs.Common.{◌≡◌, ◌∙◌, ℕ, zero, suc, ◌+◌, ◌-◌, ◌*◌, ◌<◌, ◌≤◌, get_or, List, [], ◌∷◌, ◌++◌, length, take, drop, refl, sym, ap, subst, arith, length-drop, length-take, take-append-drop}
use Rattle.std.proofs.lemmas.List.{take_all, take_more, take-append-le, drop-append-le, get_or_default}
use Rattle.std.specs.declared.option.Option.TheVariants.{Some}
use Rattle.tm_disks.specs.History.{mark_of, newest_mark, newest_kept, older, span_of}
use Rattle.tm_disks.specs.MemoryDisk.{Change, newest_first, spans}
use Rattle.tm_disks.specs.declared.history.Mark.{Mark}

abbrev pub change_of : Mark → List ℕ → Change
change_of m k = record { at = m.at; kept = k; size = m.size; is_sync = m.is_sync }

pub spans_more : (ms : List Mark) (m : Mark) → spans (ms ++ m ∷ []) ≡ spans ms + m.span
spans_more [] m = omega arith
spans_more (n ∷ ms) m = let rest = spans_more ms m in omega (arith, rest)

-- a mark at the end owns what was kept last
pub newest_more : (newer : List Change) (ms : List Mark) (m : Mark) (ks k : List ℕ) → spans ms ≡ length ks → m.span ≡ length k
    → newest_first newer (ms ++ m ∷ []) (ks ++ k) ≡ change_of m k ∷ newest_first newer ms ks
newest_more newer [] m [] k owned long = ap (λ (l : List ℕ). change_of m l ∷ newer) (take_all m.span k (omega (arith, long)))
newest_more newer [] m (x ∷ ks) k owned long = absurd (omega (arith, owned))
newest_more newer (n ∷ ms) m ks k owned long =
    let le : n.span ≤ length ks = omega (arith, owned) in
    (λ i. newest_first (change_of n (take-append-le n.span ks k le i) ∷ newer) (ms ++ m ∷ []) (drop-append-le n.span ks k le i))
    ∙ newest_more (change_of n (take n.span ks) ∷ newer) ms m (drop n.span ks) k (omega (arith, owned, length-drop n.span ks)) long

-- the newest change, and those before it
pub record Split (first ms : List Mark) (m : Mark) (ks : List ℕ) : Type 0 where
  pub whole : newest_first [] ms ks ≡ change_of m (drop (length ks - m.span) ks) ∷ newest_first [] first (take (length ks - m.span) ks)
  pub owned : spans first ≡ length (take (length ks - m.span) ks)
  pub inside : m.span ≤ length ks
  pub long : length (drop (length ks - m.span) ks) ≡ m.span

pub newest_split : (first ms : List Mark) (m : Mark) (ks : List ℕ) → ms ≡ first ++ m ∷ [] → spans ms ≡ length ks → Split first ms m ks
newest_split first ms m ks is owned =
    let at = length ks - m.span in
    let sum : spans first + m.span ≡ length ks = sym (spans_more first m) ∙ ap spans (sym is) ∙ owned in
    let front : spans first ≡ length (take at ks) = omega (arith, sum, length-take at ks) in
    let back : length (drop at ks) ≡ m.span = omega (arith, sum, length-drop at ks) in
    record {
      whole =
          (λ i. newest_first [] (is i) (sym (take-append-drop at ks) i)) ∙ newest_more [] first m (take at ks) (drop at ks) front (sym back);
      owned = front;
      inside = omega (arith, sum);
      long = back;
    }

-- the last mark
last_split : (ms : List Mark) (m : Mark) → 0 < length ms → m ≡ get_or ms (length ms - 1) m → ms ≡ take (length ms - 1) ms ++ m ∷ []
last_split ms m some is =
    let n = length ms - 1 in
    let count : n + 1 ≡ length ms = omega (arith, some) in
    sym (take_all (length ms) ms (omega arith)) ∙ ap (λ (k : ℕ). take k ms) (sym count) ∙ take_more ms n m (omega (arith, some)) ∙ ap (λ (x : Mark). take n ms ++ x ∷ []) (sym is)

pub split_last : (ms : List Mark) (m : Mark) (ks : List ℕ) → 0 < length ms → m ≡ get_or ms (length ms - 1) m → spans ms ≡ length ks
    → Split (take (length ms - 1) ms) ms m ks
split_last ms m ks some is owned = newest_split (take (length ms - 1) ms) ms m ks (last_split ms m some is) owned

pub mark_back : (m : Mark) (k : List ℕ) → length k ≡ m.span → mark_of (change_of m k) ≡ m
mark_back m k long = λ i. record { at = m.at; span = long i; size = m.size; is_sync = m.is_sync }

pub newest_is : (ms : List Mark) (m : Mark) (ks : List ℕ) → 0 < length ms → m ≡ get_or ms (length ms - 1) m → spans ms ≡ length ks
    → Some m ≡ newest_mark (newest_first [] ms ks)
newest_is ms m ks some is owned =
    let split = split_last ms m ks some is owned in
    sym (ap newest_mark split.whole ∙ ap (λ (x : Mark). Some x) (mark_back m (drop (length ks - m.span) ks) split.long))

-- what the newest mark owns, and what is left without it
pub record Owns (ms : List Mark) (ks : List ℕ) (span : ℕ) : Type 0 where
  pub bytes : drop (length ks - span) ks ≡ newest_kept (newest_first [] ms ks)
  pub older_is : newest_first [] (take (length ms - 1) ms) (take (length ks - span) ks) ≡ older (newest_first [] ms ks)
  pub still : spans (take (length ms - 1) ms) ≡ length (take (length ks - span) ks)

owns_none : (ks : List ℕ) → 0 ≡ length ks → Owns [] ks 0
owns_none [] owned = record { bytes = refl; older_is = refl; still = refl }
owns_none (k ∷ ks) owned = absurd (omega (arith, owned))

owns_some : (ms : List Mark) (m : Mark) (ks : List ℕ) → 0 < length ms → m ≡ get_or ms (length ms - 1) m → spans ms ≡ length ks → Owns ms ks m.span
owns_some ms m ks some is owned =
    let split = split_last ms m ks some is owned in
    record { bytes = sym (ap newest_kept split.whole); older_is = sym (ap older split.whole); still = split.owned }

pub owns : (ms : List Mark) (ks : List ℕ) (span : ℕ) → spans ms ≡ length ks → span ≡ span_of (newest_mark (newest_first [] ms ks)) → Owns ms ks span
owns [] ks span owned is = subst (λ (n : ℕ). Owns [] ks n) (sym is) (owns_none ks owned)
owns (n ∷ ms) ks span owned is =
    let all = n ∷ ms in
    let m = get_or all (length all - 1) n in
    let read : m ≡ get_or all (length all - 1) m = get_or_default all (length all - 1) n m (omega arith) in
    let found : span ≡ m.span = is ∙ ap span_of (sym (newest_is all m ks (omega arith) read owned)) in
    subst (λ (k : ℕ). Owns all ks k) (sym found) (owns_some all m ks (omega arith) read owned)

-- room for one change less
pub room_left : (len changes most cap n : ℕ) → len + changes * most ≤ cap → 1 ≤ changes → n ≤ most → len + n + (changes - 1) * most ≤ cap
room_left len zero most cap n fits some le = absurd (omega (arith, some))
room_left len (suc k) most cap n fits some le =
    let step : suc k * most ≡ most + k * most = omega arith in let same : suc k - 1 ≡ k = omega arith in
    subst (λ (m : ℕ). len + n + m * most ≤ cap) (sym same) (omega (arith, fits, step, le))
