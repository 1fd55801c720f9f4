-- Facts on the place of a stamp among links that rise.
use Rattle.std.proofs.Common.{◌≡◌, ◌≢◌, ◌<◌, ◌≤◌, ◌+◌, ◌^◌, ℕ, suc, zero, Bool, true, false, cond, List, [], ◌∷◌, ◌++◌, length, take, drop, get_or, refl, sym, ap, subst, ◌∙◌, arith}
use Rattle.std.specs.Prelude.{reverse, insert, nat_eq, nat_lt}
use Rattle.std.specs.List.{AllByRecursion}
use Rattle.std.specs.declared.option.Option.TheVariants.{None, Some}
use Rattle.std.specs.declared.result.Result.TheVariants.{Err}
use Rattle.std.proofs.lemmas.Bool.Decides.{nat_tests}
use Rattle.std.proofs.lemmas.List.{length-take, length-drop, get_or-drop, get_or-take, reverse-reverse}
use Rattle.tm_data.specs.declared.transaction.Page.{Page}
use Rattle.page_model.specs.declared.link.Link.{Link}
use Rattle.page_model.specs.Effects.{prev_of}
use Rattle.page_model.specs.Versions.{Missing, effect, version, held, added, last_upto}
use Rattle.version_chain.specs.Inside.{IsLink, FallsBelow, IsChain, stamp_at, Rises, IsBefore, newest_stamp, inserted}
use Rattle.version_chain.proofs.ChainLemmas.{reverse_parts, reverse_at, reverse_insert, all_from_end, Newer, Apart, falls_more, falls_rest, falls_newer, falls_added, newer_apart, version_past, version_here, version_none, held_past, held_here, held_none, added_past, added_here, upto_past, upto_here, upto_newest}

any_default : {X : Type 0} (xs : List X) (i : ℕ) (d e : X) → i < length xs → get_or xs i d ≡ get_or xs i e
any_default [] i d e lt = absurd (omega arith)
any_default (x ∷ xs) zero d e lt = refl
any_default (x ∷ xs) (suc i) d e lt = any_default xs i d e (omega arith)

pub same_stamp : (links : List Link) (i : ℕ) (d e : Link) → i < length links → stamp_at links i d ≡ stamp_at links i e
same_stamp links i d e lt = ap (λ l. l.stamp.0) (any_default links i d e lt)

-- Up to a lesser stamp all are lesser, and from a greater one on all are greater.
pub older_up : (links : List Link) (m s : ℕ) (e : Link) → Rises links → m < length links → stamp_at links m e < s → (k : ℕ) (d : Link) → k ≤ m → stamp_at links k d < s
older_up links m s e r lt here k d le = by (nat_lt k m) refl
  where
    by : (b : Bool) → nat_lt k m ≡ b → stamp_at links k d < s
    by true is =
        let less : k < m = grind (arith, nat_tests) in
        omega (arith, r k m d less lt, same_stamp links m d e lt, here)
    by false is =
        let same : k ≡ m = grind (arith, nat_tests) in
        omega (arith, ap (λ n. stamp_at links n d) same, same_stamp links m d e lt, here)

pub newer_down : (links : List Link) (m s : ℕ) (e : Link) → Rises links → m < length links → s < stamp_at links m e → (k : ℕ) (d : Link) → m ≤ k → k < length links → s < stamp_at links k d
newer_down links m s e r lt here k d le in_list = by (nat_lt m k) refl
  where
    by : (b : Bool) → nat_lt m k ≡ b → s < stamp_at links k d
    by true is =
        let less : m < k = grind (arith, nat_tests) in
        omega (arith, r m k d less in_list, same_stamp links m d e lt, here)
    by false is =
        let same : k ≡ m = grind (arith, nat_tests) in
        omega (arith, ap (λ n. stamp_at links n d) same, same_stamp links m d e lt, here)

-- ---- at a link of the stamp

falls_split : (of high : ℕ) (links : List Link) (at : ℕ) (d : Link) → at < length links → FallsBelow of high (reverse links) → FallsBelow of high (reverse (drop (at + 1) links) ++ get_or links at d ∷ reverse (take at links))
falls_split of high links at d lt f = subst (λ ls. FallsBelow of high ls) (reverse_at links at d lt) f

newer_than : (of high : ℕ) (links : List Link) (at : ℕ) (d : Link) (s : ℕ) → at < length links → stamp_at links at d ≡ s → FallsBelow of high (reverse links) → Newer s (reverse (drop (at + 1) links))
newer_than of high links at d s lt is f =
    let zs = reverse (drop (at + 1) links) in
    subst (λ n. Newer n zs) is (falls_newer of high zs (get_or links at d) (reverse (take at links)) (falls_split of high links at d lt f))

pub link_at : (of high : ℕ) (links : List Link) (at : ℕ) (d : Link) → at < length links → FallsBelow of high (reverse links) → IsLink of (get_or links at d)
link_at of high links at d lt f =
    (falls_rest of high (reverse (drop (at + 1) links)) (get_or links at d ∷ reverse (take at links)) (falls_split of high links at d lt f)).0

pub falls_before : (of high : ℕ) (links : List Link) (at : ℕ) (d : Link) → at < length links → FallsBelow of high (reverse links) → FallsBelow of high (reverse (take at links))
falls_before of high links at d lt f =
    let h = falls_rest of high (reverse (drop (at + 1) links)) (get_or links at d ∷ reverse (take at links)) (falls_split of high links at d lt f) in
    falls_more of (stamp_at links at d) high (reverse (take at links)) (omega (arith, h.1)) h.2

pub version_at : (page : Page) (of high : ℕ) (links : List Link) (at : ℕ) (d : Link) (s : ℕ) → at < length links → stamp_at links at d ≡ s → FallsBelow of high (reverse links)
    → version page (reverse links) s ≡ effect (get_or links at d) (version page (reverse (take at links)) (prev_of (get_or links at d).change))
version_at page of high links at d s lt is f =
    let zs = reverse (drop (at + 1) links) in
    let ls = get_or links at d ∷ reverse (take at links) in
    ap (λ l. version page l s) (reverse_at links at d lt)
    ∙ version_past page zs ls s (newer_apart s zs (newer_than of high links at d s lt is f))
    ∙ version_here page (get_or links at d) (reverse (take at links)) s is

newer_more : (low s : ℕ) (zs : List Link) → low < s → AllByRecursion (λ z. s < z.stamp.0) zs → AllByRecursion (λ z. low < z.stamp.0) zs
newer_more low s [] lt h = tt
newer_more low s (z ∷ zs) lt h = (omega (arith, lt, h.0), newer_more low s zs lt h.1)

-- An older version is given by the older links.
pub version_below : (page : Page) (of high : ℕ) (links : List Link) (at : ℕ) (d : Link) (s : ℕ) → at < length links → s < stamp_at links at d → FallsBelow of high (reverse links)
    → version page (reverse links) s ≡ version page (reverse (take at links)) s
version_below page of high links at d s lt below f =
    let zs = reverse (drop (at + 1) links) in
    let l = get_or links at d in
    let ys = reverse (take at links) in
    let b : nat_eq l.stamp.0 s ≡ false = grind (arith, nat_tests, below) in
    ap (λ l. version page l s) (reverse_at links at d lt)
    ∙ version_past page zs (l ∷ ys) s (newer_apart s zs (newer_more s l.stamp.0 zs below (newer_than of high links at d l.stamp.0 lt refl f)))
    ∙ ap (λ t. cond t (effect l (version page ys (prev_of l.change))) (version page ys s)) b

pub held_at : (of high : ℕ) (links : List Link) (at : ℕ) (d : Link) (s : ℕ) → at < length links → stamp_at links at d ≡ s → FallsBelow of high (reverse links)
    → held (reverse links) s ≡ Some (get_or links at d)
held_at of high links at d s lt is f =
    let zs = reverse (drop (at + 1) links) in
    let ls = get_or links at d ∷ reverse (take at links) in
    ap (λ l. held l s) (reverse_at links at d lt)
    ∙ held_past zs ls s (newer_apart s zs (newer_than of high links at d s lt is f))
    ∙ held_here (get_or links at d) (reverse (take at links)) s is

newer_rising : (links : List Link) (at : ℕ) (d : Link) (s : ℕ) → at < length links → stamp_at links at d ≡ s → Rises links → Newer s (reverse (drop (at + 1) links))
newer_rising links at d s lt is r = all_from_end (λ z. s < z.stamp.0) (drop (at + 1) links) (λ k e below.
    let len : at + 1 + k < length links = omega (arith, below, length-drop (at + 1) links) in
    let less : stamp_at links at e < stamp_at links (at + 1 + k) e = r at (at + 1 + k) e (omega arith) len in
    subst (λ l. s < l.stamp.0) (sym (get_or-drop (at + 1) links k e)) (omega (arith, less, is, same_stamp links at d e lt)))

upto_at : (links : List Link) (at : ℕ) (d : Link) (s : ℕ) → at < length links → stamp_at links at d ≡ s → Rises links → last_upto (reverse links) s ≡ s
upto_at links at d s lt is r =
    let zs = reverse (drop (at + 1) links) in
    let ls = get_or links at d ∷ reverse (take at links) in
    ap (λ l. last_upto l s) (reverse_at links at d lt)
    ∙ upto_past zs ls s (newer_rising links at d s lt is r)
    ∙ upto_here (get_or links at d) (reverse (take at links)) s (omega (arith, is))
    ∙ is

pub upto_held : (links : List Link) (at s : ℕ) → at < length links → ((d : Link) → stamp_at links at d ≡ s) → Rises links → last_upto (reverse links) s ≡ s
upto_held [] at s lt is r = absurd (omega arith)
upto_held (l ∷ ls) at s lt is r = upto_at (l ∷ ls) at l s lt (is l) r

-- ---- between the links of other stamps

pub apart_all : (links : List Link) (at s : ℕ) → IsBefore at links s → Apart s (reverse links)
apart_all links at s h = all_from_end (λ z. nat_eq z.stamp.0 s ≡ false) links (λ k d lt. by k d lt (nat_lt k at) refl)
  where
    by : (k : ℕ) (d : Link) → k < length links → (b : Bool) → nat_lt k at ≡ b → nat_eq (stamp_at links k d) s ≡ false
    by k d lt true is = let less : stamp_at links k d < s = h.0 k d (grind (arith, nat_tests)) lt in grind (arith, nat_tests)
    by k d lt false is = let more : s < stamp_at links k d = h.1 k d (grind (arith, nat_tests)) lt in grind (arith, nat_tests)

older_before : (links : List Link) (at s : ℕ) → at ≤ length links → IsBefore at links s → AllByRecursion (λ y. y.stamp.0 < s) (reverse (take at links))
older_before links at s in_list h = all_from_end (λ y. y.stamp.0 < s) (take at links) (λ k d lt.
    let len : k < at = omega (arith, lt, length-take at links) in
    subst (λ l. l.stamp.0 < s) (sym (get_or-take at links k d len)) (h.0 k d len (omega arith)))

newer_behind : (links : List Link) (at s : ℕ) → at ≤ length links → IsBefore at links s → Newer s (reverse (drop at links))
newer_behind links at s in_list h = all_from_end (λ z. s < z.stamp.0) (drop at links) (λ k d lt.
    let len : at + k < length links = omega (arith, lt, length-drop at links) in
    subst (λ l. s < l.stamp.0) (sym (get_or-drop at links k d)) (h.1 (at + k) d (omega arith) len))

pub version_missing : (page : Page) (links : List Link) (at s : ℕ) → IsBefore at links s → s ≢ 0 → version page (reverse links) s ≡ Err (Missing s)
version_missing page links at s h some = version_none page (reverse links) s (apart_all links at s h) some

pub held_between : (links : List Link) (at s : ℕ) → IsBefore at links s → held (reverse links) s ≡ None
held_between links at s h = held_none (reverse links) s (apart_all links at s h)

pub upto_between : (links : List Link) (at s : ℕ) → at ≤ length links → IsBefore at links s → last_upto (reverse links) s ≡ newest_stamp (reverse (take at links))
upto_between links at s in_list h =
    ap (λ l. last_upto l s) (reverse_parts links at)
    ∙ upto_past (reverse (drop at links)) (reverse (take at links)) s (newer_behind links at s in_list h)
    ∙ upto_newest (reverse (take at links)) s (older_before links at s in_list h)

inserted_is : (links : List Link) (at : ℕ) (new : Link) → inserted (reverse links) at new ≡ reverse (drop at links) ++ new ∷ reverse (take at links)
inserted_is links at new = ap (λ l. reverse (insert l at new)) (reverse-reverse links) ∙ reverse_insert links at new

-- Putting a link into its place adds it.
pub added_between : (links : List Link) (at : ℕ) (new : Link) → at ≤ length links → IsBefore at links new.stamp.0 → inserted (reverse links) at new ≡ added (reverse links) new
added_between links at new in_list h =
    let zs = reverse (drop at links) in
    let ys = reverse (take at links) in
    inserted_is links at new
    ∙ sym (ap (λ l. added l new) (reverse_parts links at)
    ∙ added_past zs ys new (newer_behind links at new.stamp.0 in_list h)
    ∙ ap (λ l. zs ++ l) (added_here ys new (older_before links at new.stamp.0 in_list h)))

pub chain_between : (page : ℕ) (links : List Link) (at : ℕ) (new : Link) → at ≤ length links → IsBefore at links new.stamp.0 → IsLink page new → new.stamp.0 < 2 ^ 64
    → IsChain page (reverse links) → IsChain page (inserted (reverse links) at new)
chain_between page links at new in_list h link fits chain =
    let zs = reverse (drop at links) in
    let ys = reverse (take at links) in
    subst (λ l. IsChain page l) (sym (inserted_is links at new))
    (falls_added page (2 ^ 64) zs new ys link fits (newer_behind links at new.stamp.0 in_list h) (older_before links at new.stamp.0 in_list h)
    (subst (λ l. IsChain page l) (reverse_parts links at) chain))
