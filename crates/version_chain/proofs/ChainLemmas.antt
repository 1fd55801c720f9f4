-- Facts on links, the newest first, and on what versions they give.
use Rattle.std.proofs.Common.{◌≡◌, ◌≢◌, zero, ◌<◌, ◌≤◌, ◌+◌, ◌-◌, ℕ, suc, true, false, cond, List, [], ◌∷◌, ◌++◌, length, take, drop, get_or, refl, sym, ap, subst, ◌∙◌, arith, append_assoc}
use Rattle.std.specs.Prelude.{reverse, insert, nat_eq, nat_lt, nat_le}
use Rattle.std.specs.List.{AllByRecursion}
use Rattle.std.specs.declared.option.Option.TheVariants.{None, Some}
use Rattle.std.specs.declared.result.Result.TheVariants.{Ok, Err}
use Rattle.std.proofs.lemmas.Bool.Decides.{nat_tests}
use Rattle.std.proofs.lemmas.List.{take-append-drop, drop_more, reverse-append, length-reverse, get_or-reverse}
use Rattle.std.proofs.lemmas.Grind.{reverse_onto}
use Rattle.tm_data.specs.declared.transaction.Page.{Page}
use Rattle.page_model.specs.declared.link.Link.{Link}
use Rattle.page_model.specs.Effects.{initial, prev_of}
use Rattle.page_model.specs.Versions.{Missing, effect, version, held, added, last_upto}
use Rattle.version_chain.specs.Inside.{IsLink, FallsBelow, stamp_at, Rises, newest_stamp}

-- ---- lists from their end on

reverse_cons : {X : Type 0} (x : X) (xs : List X) → reverse (x ∷ xs) ≡ reverse xs ++ x ∷ []
reverse_cons x xs = reverse_onto xs x []

-- The list from its end on, in two parts.
pub reverse_parts : {X : Type 0} (xs : List X) (n : ℕ) → reverse xs ≡ reverse (drop n xs) ++ reverse (take n xs)
reverse_parts xs n = ap reverse (sym (take-append-drop n xs)) ∙ reverse-append (take n xs) (drop n xs)

-- And with the item between them.
pub reverse_at : {X : Type 0} (xs : List X) (n : ℕ) (d : X) → n < length xs → reverse xs ≡ reverse (drop (n + 1) xs) ++ get_or xs n d ∷ reverse (take n xs)
reverse_at xs n d lt =
    reverse_parts xs n
    ∙ ap (λ ys. reverse ys ++ reverse (take n xs)) (drop_more xs n d lt)
    ∙ ap (λ ys. ys ++ reverse (take n xs)) (reverse_cons (get_or xs n d) (drop (n + 1) xs))
    ∙ append_assoc (reverse (drop (n + 1) xs)) (get_or xs n d ∷ []) (reverse (take n xs))

pub reverse_insert : {X : Type 0} (xs : List X) (n : ℕ) (x : X) → reverse (insert xs n x) ≡ reverse (drop n xs) ++ x ∷ reverse (take n xs)
reverse_insert xs n x =
    reverse-append (take n xs) (x ∷ drop n xs)
    ∙ ap (λ ys. ys ++ reverse (take n xs)) (reverse_cons x (drop n xs))
    ∙ append_assoc (reverse (drop n xs)) (x ∷ []) (reverse (take n xs))

-- What is so at each place is so of all.
pub all_by_place : {X : Type 0} (P : X → Type 0) (xs : List X) → ((k : ℕ) (d : X) → k < length xs → P (get_or xs k d)) → AllByRecursion P xs
all_by_place P [] h = tt
all_by_place P (x ∷ xs) h = (h 0 x (omega arith), all_by_place P xs (λ k d lt. h (suc k) d (omega arith)))

pub all_from_end : {X : Type 0} (P : X → Type 0) (xs : List X) → ((k : ℕ) (d : X) → k < length xs → P (get_or xs k d)) → AllByRecursion P (reverse xs)
all_from_end P xs h =
    all_by_place P (reverse xs) (λ k d lt.
    let l : length (reverse xs) ≡ length xs = length-reverse xs in
    let here : k < length xs = omega arith in
    subst P (sym (get_or-reverse xs k d here)) (h (length xs - 1 - k) d (omega arith)))

-- ---- links that fall

-- The links of a stamp come after newer ones.
abbrev pub Newer : ℕ → List Link → Type 0
Newer s zs = AllByRecursion (λ z. s < z.stamp.0) zs

abbrev pub Apart : ℕ → List Link → Type 0
Apart s zs = AllByRecursion (λ z. nat_eq z.stamp.0 s ≡ false) zs

pub falls_more : (page low high : ℕ) (ls : List Link) → low ≤ high → FallsBelow page low ls → FallsBelow page high ls
falls_more page low high [] le h = tt
falls_more page low high (l ∷ ls) le h = (h.0, omega (arith, h.1), h.2)

pub falls_rest : (page high : ℕ) (zs ls : List Link) → FallsBelow page high (zs ++ ls) → FallsBelow page high ls
falls_rest page high [] ls h = h
falls_rest page high (z ∷ zs) ls h = falls_more page z.stamp.0 high ls (omega (arith, h.1)) (falls_rest page z.stamp.0 zs ls h.2)

falls_in : (page high : ℕ) (zs : List Link) (l : Link) (ls : List Link) → FallsBelow page high (zs ++ l ∷ ls) → l.stamp.0 < high
falls_in page high zs l ls h = (falls_rest page high zs (l ∷ ls) h).1

pub falls_newer : (page high : ℕ) (zs : List Link) (l : Link) (ls : List Link) → FallsBelow page high (zs ++ l ∷ ls) → Newer l.stamp.0 zs
falls_newer page high [] l ls h = tt
falls_newer page high (z ∷ zs) l ls h = (falls_in page z.stamp.0 zs l ls h.2, falls_newer page z.stamp.0 zs l ls h.2)

falls_at : (page high : ℕ) (ls : List Link) (j : ℕ) (d : Link) → FallsBelow page high ls → j < length ls → stamp_at ls j d < high
falls_at page high [] j d h lt = absurd (omega arith)
falls_at page high (l ∷ ls) zero d h lt = h.1
falls_at page high (l ∷ ls) (suc j) d h lt = let below : stamp_at ls j d < l.stamp.0 = falls_at page l.stamp.0 ls j d h.2 (omega arith) in omega (arith, below, h.1)

falls : (page high : ℕ) (ls : List Link) (i j : ℕ) (d : Link) → FallsBelow page high ls → i < j → j < length ls → stamp_at ls j d < stamp_at ls i d
falls page high [] i j d h lt in_list = absurd (omega arith)
falls page high (l ∷ ls) i zero d h lt in_list = absurd (omega arith)
falls page high (l ∷ ls) zero (suc j) d h lt in_list = falls_at page l.stamp.0 ls j d h.2 (omega arith)
falls page high (l ∷ ls) (suc i) (suc j) d h lt in_list = falls page l.stamp.0 ls i j d h.2 (omega arith) (omega arith)

from_end : {X : Type 0} (xs : List X) (i : ℕ) (d : X) → i < length xs → get_or xs i d ≡ get_or (reverse xs) (length xs - 1 - i) d
from_end xs i d lt =
    let n = length xs in
    let back : n - 1 - (n - 1 - i) ≡ i = omega arith in
    ap (λ k. get_or xs k d) (sym back) ∙ sym (get_or-reverse xs (n - 1 - i) d (omega arith))

pub rises : (page high : ℕ) (links : List Link) → FallsBelow page high (reverse links) → Rises links
rises page high links h i j d lt in_list =
    let n = length links in
    let len : length (reverse links) ≡ length links = length-reverse links in
    let at_i : stamp_at links i d ≡ stamp_at (reverse links) (n - 1 - i) d = ap (λ l. l.stamp.0) (from_end links i d (omega arith)) in
    let at_j : stamp_at links j d ≡ stamp_at (reverse links) (n - 1 - j) d = ap (λ l. l.stamp.0) (from_end links j d (omega arith)) in
    let less : stamp_at (reverse links) (n - 1 - i) d < stamp_at (reverse links) (n - 1 - j) d = falls page high (reverse links) (n - 1 - j) (n - 1 - i) d h (omega arith) (omega arith) in
    omega (arith, at_i, at_j, less)

-- A link in front of all that are older, and behind all that are newer.
pub falls_added : (page high : ℕ) (zs : List Link) (new : Link) (ys : List Link) → IsLink page new → new.stamp.0 < high → Newer new.stamp.0 zs → AllByRecursion (λ y. y.stamp.0 < new.stamp.0) ys
    → FallsBelow page high (zs ++ ys) → FallsBelow page high (zs ++ new ∷ ys)
falls_added page high [] new [] link low newer older h = (link, low, tt)
falls_added page high [] new (y ∷ ys) link low newer older h = (link, low, (h.0, older.0, h.2))
falls_added page high (z ∷ zs) new ys link low newer older h = (h.0, h.1, falls_added page z.stamp.0 zs new ys link newer.0 newer.1 older h.2)

-- ---- what links give

pub newer_apart : (s : ℕ) (zs : List Link) → Newer s zs → Apart s zs
newer_apart s [] h = tt
newer_apart s (z ∷ zs) h = (grind (arith, nat_tests, h.0), newer_apart s zs h.1)

pub version_past : (page : Page) (zs ls : List Link) (s : ℕ) → Apart s zs → version page (zs ++ ls) s ≡ version page ls s
version_past page [] ls s h = refl
version_past page (z ∷ zs) ls s h =
    ap (λ b. cond b (effect z (version page (zs ++ ls) (prev_of z.change))) (version page (zs ++ ls) s)) h.0 ∙ version_past page zs ls s h.1

pub held_past : (zs ls : List Link) (s : ℕ) → Apart s zs → held (zs ++ ls) s ≡ held ls s
held_past [] ls s h = refl
held_past (z ∷ zs) ls s h = ap (λ b. cond b (Some z) (held (zs ++ ls) s)) h.0 ∙ held_past zs ls s h.1

pub version_here : (page : Page) (l : Link) (ls : List Link) (s : ℕ) → l.stamp.0 ≡ s → version page (l ∷ ls) s ≡ effect l (version page ls (prev_of l.change))
version_here page l ls s is =
    let b : nat_eq l.stamp.0 s ≡ true = grind (arith, nat_tests) in
    ap (λ t. cond t (effect l (version page ls (prev_of l.change))) (version page ls s)) b

pub held_here : (l : Link) (ls : List Link) (s : ℕ) → l.stamp.0 ≡ s → held (l ∷ ls) s ≡ Some l
held_here l ls s is =
    let b : nat_eq l.stamp.0 s ≡ true = grind (arith, nat_tests) in
    ap (λ t. cond t (Some l) (held ls s)) b

pub version_none : (page : Page) (ls : List Link) (s : ℕ) → Apart s ls → s ≢ 0 → version page ls s ≡ Err (Missing s)
version_none page [] s h some = let b : nat_eq s 0 ≡ false = grind (arith, nat_tests) in ap (λ t. cond t (Ok (initial page)) (Err (Missing s))) b
version_none page (l ∷ ls) s h some =
    ap (λ b. cond b (effect l (version page ls (prev_of l.change))) (version page ls s)) h.0 ∙ version_none page ls s h.1 some

pub version_first : (page : Page) (of high : ℕ) (ls : List Link) → FallsBelow of high ls → version page ls 0 ≡ Ok (initial page)
version_first page of high [] h = refl
version_first page of high (l ∷ ls) h =
    let b : nat_eq l.stamp.0 0 ≡ false = grind (arith, nat_tests, h.0.1) in
    ap (λ t. cond t (effect l (version page ls (prev_of l.change))) (version page ls 0)) b ∙ version_first page of l.stamp.0 ls h.2

pub held_none : (ls : List Link) (s : ℕ) → Apart s ls → held ls s ≡ None
held_none [] s h = refl
held_none (l ∷ ls) s h = ap (λ b. cond b (Some l) (held ls s)) h.0 ∙ held_none ls s h.1

pub added_past : (zs ys : List Link) (new : Link) → Newer new.stamp.0 zs → added (zs ++ ys) new ≡ zs ++ added ys new
added_past [] ys new h = refl
added_past (z ∷ zs) ys new h =
    let b : nat_lt z.stamp.0 new.stamp.0 ≡ false = grind (arith, nat_tests, h.0) in
    ap (λ t. cond t (new ∷ z ∷ (zs ++ ys)) (z ∷ added (zs ++ ys) new)) b ∙ ap (λ l. z ∷ l) (added_past zs ys new h.1)

pub added_here : (ys : List Link) (new : Link) → AllByRecursion (λ y. y.stamp.0 < new.stamp.0) ys → added ys new ≡ new ∷ ys
added_here [] new h = refl
added_here (y ∷ ys) new h =
    let b : nat_lt y.stamp.0 new.stamp.0 ≡ true = grind (arith, nat_tests, h.0) in
    ap (λ t. cond t (new ∷ y ∷ ys) (y ∷ added ys new)) b

pub upto_past : (zs ls : List Link) (s : ℕ) → Newer s zs → last_upto (zs ++ ls) s ≡ last_upto ls s
upto_past [] ls s h = refl
upto_past (z ∷ zs) ls s h =
    let b : nat_le z.stamp.0 s ≡ false = grind (arith, nat_tests, h.0) in
    ap (λ t. cond t z.stamp.0 (last_upto (zs ++ ls) s)) b ∙ upto_past zs ls s h.1

pub upto_here : (l : Link) (ls : List Link) (s : ℕ) → l.stamp.0 ≤ s → last_upto (l ∷ ls) s ≡ l.stamp.0
upto_here l ls s le =
    let b : nat_le l.stamp.0 s ≡ true = grind (arith, nat_tests) in
    ap (λ t. cond t l.stamp.0 (last_upto ls s)) b

pub upto_newest : (ls : List Link) (s : ℕ) → AllByRecursion (λ y. y.stamp.0 < s) ls → last_upto ls s ≡ newest_stamp ls
upto_newest [] s h = refl
upto_newest (l ∷ ls) s h = upto_here l ls s (omega (arith, h.0))
