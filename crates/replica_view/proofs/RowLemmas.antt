-- Where the rows and the children begin that a scan looks for.
use Rattle.std.specs.Prelude.{Option, Some, None, filter}
use Rattle.std.proofs.Common.{◌≡◌, ◌≢◌, ◌≤◌, ◌∙◌, ℕ, zero, suc, ◌+◌, ◌-◌, Bool, true, false, not, cond, List, [], ◌∷◌, ◌++◌, length, take, drop, is_some, refl, sym, ap, arith, append_assoc, append-nil}
use Rattle.std.specs.List.{AllByRecursion}
use Rattle.tm_data.specs.declared.image.Child.{Child}
use Rattle.tm_data.specs.declared.row.Row.{Row}
use Rattle.tm_data.specs.declared.transaction.Page.{Page}
use Rattle.tm_data.specs.declared.vector.VectorEntry.{VectorEntry}
use Rattle.tm_lists.specs.Kept.{Ascend, further, place_in}
use Rattle.tm_lists.specs.declared.kept.KeyPlace.{KeyPlace}
use Rattle.tm_lists.specs.declared.kept.KeyPlace.TheVariants.{At, Before}
use Rattle.tm_lists.proofs.KeyLemmas.{less_trans}
use Rattle.key_fences.specs.Fences.{is_below, is_from, key_less}
use Rattle.page_model.specs.Tree.{Place, entry_places, first_place, next_fence}
use Rattle.row_tree.specs.Inside.{ArePartedAt}
use Rattle.replica_model.specs.Reads.{Pair, from_on, paired, pairs_in, value_at}
use Rattle.replica_model.specs.State.{State}
use Rattle.replica_view.specs.Answers.{places}

-- ---- rows

abbrev key_of : Row → List ℕ
key_of r = r.key

abbrev pub number_of : KeyPlace → ℕ
number_of (At at) = at
number_of (Before at) = at

number_further : (p : KeyPlace) → number_of (further p) ≡ suc (number_of p)
number_further (At at) = refl
number_further (Before at) = refl

abbrev up_from : List ℕ → Row → Bool
up_from key r = not (key_less r.key key)

all_kept : (key : List ℕ) (r : Row) (rows : List Row) → key_less r.key key ≡ false → AllByRecursion (λ (y : Row). key_less r.key y.key ≡ true) rows → filter (up_from key) rows ≡ rows
all_kept key r [] from above = refl
all_kept key r (y ∷ rows) from above =
    let e : key_less y.key key ≡ false = by (key_less y.key key) refl in
    rw e (ap (λ (ys : List Row). y ∷ ys) (all_kept key r rows from above.1))
  where
    by : (b : Bool) → key_less y.key key ≡ b → b ≡ false
    by true is = absurd (let e = less_trans r.key y.key key above.0 is in cc)
    by false is = refl

-- The rows from a key on are those from its place on.
pub rows_from : (key : List ℕ) (rows : List Row) → Ascend (λ (r : Row). r.key) rows → filter (up_from key) rows ≡ drop (number_of (place_in (λ (r : Row). r.key) rows key)) rows
rows_from key [] up = refl
rows_from key (r ∷ rows) up = by (key_less r.key key) (key_less key r.key) refl (rows_from key rows up.1)
  where
    by : (b c : Bool) → key_less r.key key ≡ b → filter (up_from key) rows ≡ drop (number_of (place_in (λ (x : Row). x.key) rows key)) rows
        → cond (not b) (r ∷ filter (up_from key) rows) (filter (up_from key) rows)
        ≡ drop (number_of (cond b (further (place_in (λ (x : Row). x.key) rows key)) (cond c (Before 0) (At 0)))) (r ∷ rows)
    by true c is rest = rest ∙ ap (λ (n : ℕ). drop n (r ∷ rows)) (sym (number_further (place_in (λ (x : Row). x.key) rows key)))
    by false true is rest = ap (λ (ys : List Row). r ∷ ys) (all_kept key r rows is up.0)
    by false false is rest = ap (λ (ys : List Row). r ∷ ys) (all_kept key r rows is up.0)

pub every_row : (rows : List Row) → filter (λ (r : Row). is_from None r.key) rows ≡ rows
every_row [] = refl
every_row (r ∷ rows) = ap (λ (rs : List Row). r ∷ rs) (every_row rows)

-- The pairs from a key on are those of the rows from it on.
pub pairs_from : (s : State) (cut : List VectorEntry) (from : Option (List ℕ)) (rows : List Row) → pairs_in s cut from rows ≡ pairs_in s cut None (filter (λ (r : Row). is_from from r.key) rows)
pairs_from s cut from [] = refl
pairs_from s cut from (r ∷ rows) = by (is_from from r.key) (pairs_from s cut from rows)
  where
    by : (b : Bool) → pairs_in s cut from rows ≡ pairs_in s cut None (filter (λ (x : Row). is_from from x.key) rows)
        → cond b (paired r.key (value_at s cut r) (pairs_in s cut from rows)) (pairs_in s cut from rows)
        ≡ pairs_in s cut None (cond b (r ∷ filter (λ (x : Row). is_from from x.key) rows) (filter (λ (x : Row). is_from from x.key) rows))
    by true rest = ap (λ (ps : List Pair). paired r.key (value_at s cut r) ps) rest
    by false rest = rest

-- ---- one more row

-- A row with a value takes one of the places that are left.
pub row_added : (s : State) (cut : List VectorEntry) (r : Row) (rest : List Row) (left : ℕ) (old new : List Pair) (some : Bool)
    → some ≡ is_some (value_at s cut r) → new ≡ old ++ paired r.key (value_at s cut r) [] → some ≡ true → left ≢ 0
    → new ++ take (left - 1) (pairs_in s cut None rest) ≡ old ++ take left (pairs_in s cut None (r ∷ rest))
row_added s cut r rest left old new some is to one more = by (value_at s cut r) left more (sym one ∙ is) to
  where
    by : (v : Option (List ℕ)) (n : ℕ) → n ≢ 0 → true ≡ is_some v → new ≡ old ++ paired r.key v []
        → new ++ take (n - 1) (pairs_in s cut None rest) ≡ old ++ take n (paired r.key v (pairs_in s cut None rest))
    by None n more one to = absurd (cc)
    by (Some value) zero more one to = absurd (more refl)
    by (Some value) (suc m) more one to =
        let e : suc m - 1 ≡ m = omega arith in
        rw (to, e) (append_assoc old ((r.key, value) ∷ []) (take m (pairs_in s cut None rest)))

-- One without a value takes none.
pub row_left_out : (s : State) (cut : List VectorEntry) (r : Row) (rest : List Row) (left : ℕ) (old new : List Pair) (some : Bool)
    → some ≡ is_some (value_at s cut r) → new ≡ old ++ paired r.key (value_at s cut r) [] → some ≡ false
    → new ++ take left (pairs_in s cut None rest) ≡ old ++ take left (pairs_in s cut None (r ∷ rest))
row_left_out s cut r rest left old new some is to none = by (value_at s cut r) (sym none ∙ is) to
  where
    by : (v : Option (List ℕ)) → false ≡ is_some v → new ≡ old ++ paired r.key v []
        → new ++ take left (pairs_in s cut None rest) ≡ old ++ take left (paired r.key v (pairs_in s cut None rest))
    by None none to = ap (λ (ps : List Pair). ps ++ take left (pairs_in s cut None rest)) (to ∙ append-nil old)
    by (Some value) none to = absurd (cc)

-- ---- children

from_not : (b : Bool) → not b ≡ true → b ≡ false
from_not true h = cc
from_not false h = refl

to_not : (b : Bool) → not b ≡ false → b ≡ true
to_not true h = refl
to_not false h = cc

-- Up to the entries with keys up to this one, no child has keys from it on.
reached : (key : List ℕ) (high : Option (List ℕ)) (place : Place) (entries : List Child) (n : ℕ) → place.high ≡ next_fence entries high → n ≤ length entries → ArePartedAt key entries n
    → (n ≡ length entries → is_below high key ≡ true) → from_on (Some key) (place ∷ entry_places high entries) ≡ drop n (place ∷ entry_places high entries)
reached key high place [] zero is le parted below = let e = below refl in rw (is, e) refl
reached key high place [] (suc n) is le parted below = absurd (omega arith)
reached key high place (c ∷ cs) zero is le parted below =
    let e : key_less key c.key ≡ true = to_not _ (parted.1 0 c (omega arith) (omega arith)) in
    rw (is, e) refl
reached key high place (c ∷ cs) (suc n) is le parted below =
    let e : key_less key c.key ≡ false = from_not _ (parted.0 0 c (omega arith) (omega arith)) in
    rw (is, e) (reached key high _ cs n refl (omega arith) ((λ k x lo hi. parted.0 (suc k) x (omega arith) (omega arith)), (λ k x lo hi. parted.1 (suc k) x (omega arith) (omega arith))) (λ end. below (omega (arith, end))))

-- Behind the page's high fence none has.
passed : (key : List ℕ) (high : Option (List ℕ)) (place : Place) (entries : List Child) (n : ℕ) → place.high ≡ next_fence entries high → n ≡ length entries → ArePartedAt key entries n
    → is_below high key ≡ false → from_on (Some key) (place ∷ entry_places high entries) ≡ drop (suc n) (place ∷ entry_places high entries)
passed key high place [] zero is end parted above = rw (is, above) refl
passed key high place [] (suc n) is end parted above = absurd (omega arith)
passed key high place (c ∷ cs) zero is end parted above = absurd (omega arith)
passed key high place (c ∷ cs) (suc n) is end parted above =
    let e : key_less key c.key ≡ false = from_not _ (parted.0 0 c (omega arith) (omega arith)) in
    rw (is, e) (passed key high _ cs n refl (omega arith) ((λ k x lo hi. parted.0 (suc k) x (omega arith) (omega arith)), (λ k x lo hi. parted.1 (suc k) x (omega arith) (omega arith))) above)

pub reached_at : (key : List ℕ) (low high : Option (List ℕ)) (first : Page) (entries : List Child) (n : ℕ) → n ≤ length entries → ArePartedAt key entries n
    → (n ≡ length entries → is_below high key ≡ true) → from_on (Some key) (places low high first entries) ≡ drop n (places low high first entries)
reached_at key low high first entries n le parted below = reached key high (first_place low high first entries) entries n refl le parted below

pub passed_all : (key : List ℕ) (low high : Option (List ℕ)) (first : Page) (entries : List Child) (n : ℕ) → n ≡ length entries → ArePartedAt key entries n
    → is_below high key ≡ false → from_on (Some key) (places low high first entries) ≡ drop (n + 1) (places low high first entries)
passed_all key low high first entries n end parted above =
    passed key high (first_place low high first entries) entries n refl end parted above ∙ ap (λ (m : ℕ). drop m (places low high first entries)) (let e : suc n ≡ n + 1 = omega arith in e)

pub how_many : (low high : Option (List ℕ)) (first : Page) (entries : List Child) → length (places low high first entries) ≡ length entries + 1
how_many low high first [] = refl
how_many low high first (c ∷ cs) = let e = how_many low high first cs in omega (arith, e)
