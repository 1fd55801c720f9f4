-- The tags of a page, once those of some transactions or of another page are gone.
use Rattle.std.proofs.Common.{◌≡◌, ℕ, Bool, true, false, cond, List, [], ◌∷◌, Option, Some, None, refl, ap, sym, subst, ◌∙◌, map, arith, nat_eq}
use Rattle.std.specs.Prelude.{T, ◌&&◌, filter, not}
use Rattle.std.specs.FinMap as fin
use Rattle.std.specs.FinMap.Entries.{is_sorted, is_sorted-where_key, where_key}
use Rattle.std.proofs.lemmas.Bool.Decides.{nat_tests}
use Rattle.tm_data.specs.declared.transaction.Txn.{Txn}
use Rattle.tm_base.specs.declared.message.Tag.{Tag}
use Rattle.lock_table.specs.Tags.{PageTag, Tags, is_on, items, marked, same_txn, set_of, tag_cmp, tag_cmp-exact, tag_cmp-total, tag_of, tags_on, without_page, without_txn}
use Rattle.master_model.specs.declared.left.Left.{Left}
use Rattle.master_model.specs.State.{Work}
use Rattle.master_model.specs.Fates.{is_ended, is_own}
use Rattle.master_model.specs.Leases.{left_of}
use Rattle.master_acks.specs.Inside.{ended_off, has_ended_in, without_each}

abbrev Row : Type 0
Row = PageTag × Unit {0}

-- ---- some of the tags of a set are the items of their set

marked_row : (p : PageTag → Bool) (es : List Row) → marked (filter p (map (λ (e : Row). e.0) es)) ≡ where_key tag_cmp p es
marked_row p [] = refl
marked_row p (e ∷ es) = by (p e.0) (marked_row p es)
  where
    by : (b : Bool) → marked (filter p (map (λ (e : Row). e.0) es)) ≡ where_key tag_cmp p es → marked (cond b (e.0 ∷ filter p (map (λ (e : Row). e.0) es)) (filter p (map (λ (e : Row). e.0) es))) ≡ cond b (e ∷ where_key tag_cmp p es) (where_key tag_cmp p es)
    by true rest = ap (λ (rows : List Row). e ∷ rows) rest
    by false rest = rest

keys_marked : (ts : List PageTag) → map (λ (e : Row). e.0) (marked ts) ≡ ts
keys_marked [] = refl
keys_marked (t ∷ ts) = ap (λ (z : List PageTag). t ∷ z) (keys_marked ts)

module _ (p : PageTag → Bool) (v : Tags) where
  some : List PageTag
  some = filter p (items v)

  sorted : T (is_sorted tag_cmp (marked (filter p (items v))))
  sorted = subst (λ (rows : List Row). T (is_sorted tag_cmp rows)) (sym (marked_row p (fin.entries v))) (is_sorted-where_key tag_cmp p (fin.entries v) (fin.entries_sorted v))

  as_sorted : set_of (filter p (items v)) ≡ fin.from_sorted (marked (filter p (items v)))
  as_sorted = fin.same_map tag_cmp-total tag_cmp-exact _ _ (λ q. fin.get-from_entries tag_cmp-total (marked (filter p (items v))) q ∙ sym (fin.get-from_sorted tag_cmp (marked (filter p (items v))) q sorted))

  pub items_kept : items (set_of (filter p (items v))) ≡ filter p (items v)
  items_kept =
      ap (λ (m : Tags). items m) as_sorted ∙ ap (λ (rows : List Row). map (λ (e : Row). e.0) rows) (fin.entries-from_sorted tag_cmp (marked (filter p (items v))) sorted) ∙ keys_marked (filter p (items v))

-- ---- another page's tags go

filter_other : (p q : PageTag → Bool) (ts : List PageTag) → ((t : PageTag) → q t ≡ true → p t ≡ true) → filter q (filter p ts) ≡ filter q ts
filter_other p q [] h = refl
filter_other p q (t ∷ ts) h = by (p t) (q t) refl refl (filter_other p q ts h)
  where
    by : (a b : Bool) → p t ≡ a → q t ≡ b → filter q (filter p ts) ≡ filter q ts → filter q (cond a (t ∷ filter p ts) (filter p ts)) ≡ cond b (t ∷ filter q ts) (filter q ts)
    by true true is_a is_b rest = ap (λ (x : Bool). cond x (t ∷ filter q (filter p ts)) (filter q (filter p ts))) is_b ∙ ap (λ (xs : List PageTag). t ∷ xs) rest
    by true false is_a is_b rest = ap (λ (x : Bool). cond x (t ∷ filter q (filter p ts)) (filter q (filter p ts))) is_b ∙ rest
    by false true is_a is_b rest = absurd (let yes = sym is_a ∙ h t is_b in cc yes)
    by false false is_a is_b rest = rest

pub other_page : (v : Tags) (page q : ℕ) → (q ≡ page → ⊥) → tags_on (without_page v page) q ≡ tags_on v q
other_page v page q other =
    ap (λ (ts : List PageTag). map tag_of (filter (is_on q) ts)) (items_kept (λ t. not (is_on page t)) v)
    ∙ ap (λ (ts : List PageTag). map tag_of ts) (filter_other (λ t. not (is_on page t)) (is_on q) (items v) apart)
  where
    apart : (t : PageTag) → is_on q t ≡ true → not (is_on page t) ≡ true
    apart t on = by (nat_eq t.page page) refl
      where
        by : (b : Bool) → nat_eq t.page page ≡ b → not b ≡ true
        by true is = absurd (let a : t.page ≡ q = grind (arith, nat_tests) in let b : t.page ≡ page = grind (arith, nat_tests) in other (sym a ∙ b))
        by false is = refl

-- ---- a transaction's tags go

filter_swap : {X : Type 0} (p q : X → Bool) (xs : List X) → filter p (filter q xs) ≡ filter q (filter p xs)
filter_swap {X = X} p q [] = refl
filter_swap {X = X} p q (x ∷ xs) = by (p x) (q x) refl refl (filter_swap p q xs)
  where
    by : (a b : Bool) → p x ≡ a → q x ≡ b → filter p (filter q xs) ≡ filter q (filter p xs) → filter p (cond b (x ∷ filter q xs) (filter q xs)) ≡ filter q (cond a (x ∷ filter p xs) (filter p xs))
    by true true is_a is_b rest =
        ap (λ (c : Bool). cond c (x ∷ filter p (filter q xs)) (filter p (filter q xs))) is_a ∙ ap (λ (ys : List X). x ∷ ys) rest
        ∙ sym (ap (λ (c : Bool). cond c (x ∷ filter q (filter p xs)) (filter q (filter p xs))) is_b)
    by true false is_a is_b rest = rest ∙ sym (ap (λ (c : Bool). cond c (x ∷ filter q (filter p xs)) (filter q (filter p xs))) is_b)
    by false true is_a is_b rest = ap (λ (c : Bool). cond c (x ∷ filter p (filter q xs)) (filter p (filter q xs))) is_a ∙ rest
    by false false is_a is_b rest = rest

filter_map_tags : (p : Tag → Bool) (ts : List PageTag) → map tag_of (filter (λ t. p (tag_of t)) ts) ≡ filter p (map tag_of ts)
filter_map_tags p [] = refl
filter_map_tags p (t ∷ ts) = by (p (tag_of t)) (filter_map_tags p ts)
  where
    by : (b : Bool) → map tag_of (filter (λ t. p (tag_of t)) ts) ≡ filter p (map tag_of ts) → map tag_of (cond b (t ∷ filter (λ t. p (tag_of t)) ts) (filter (λ t. p (tag_of t)) ts)) ≡ cond b (tag_of t ∷ filter p (map tag_of ts)) (filter p (map tag_of ts))
    by true rest = ap (λ (xs : List Tag). tag_of t ∷ xs) rest
    by false rest = rest

one_off : (v : Tags) (t : Txn) (page : ℕ) → tags_on (without_txn v t) page ≡ filter (λ x. not (same_txn x.txn t)) (tags_on v page)
one_off v t page =
    ap (λ (ts : List PageTag). map tag_of (filter (is_on page) ts)) (items_kept (λ x. not (same_txn x.txn t)) v)
    ∙ ap (λ (ts : List PageTag). map tag_of ts) (filter_swap (is_on page) (λ x. not (same_txn x.txn t)) (items v))
    ∙ filter_map_tags (λ x. not (same_txn x.txn t)) (filter (is_on page) (items v))

both_off : (xs : List Tag) (t : Txn) (ts : List Txn) → filter (λ x. not (has_ended_in ts x.txn)) (filter (λ x. not (same_txn x.txn t)) xs) ≡ filter (λ x. not (has_ended_in (t ∷ ts) x.txn)) xs
both_off [] t ts = refl
both_off (x ∷ xs) t ts = by (same_txn x.txn t) (both_off xs t ts)
  where
    by : (b : Bool) → filter (λ x. not (has_ended_in ts x.txn)) (filter (λ x. not (same_txn x.txn t)) xs) ≡ filter (λ x. not (has_ended_in (t ∷ ts) x.txn)) xs
        → filter (λ x. not (has_ended_in ts x.txn)) (cond (not b) (x ∷ filter (λ x. not (same_txn x.txn t)) xs) (filter (λ x. not (same_txn x.txn t)) xs))
        ≡ cond (not (cond b true (has_ended_in ts x.txn))) (x ∷ filter (λ x. not (has_ended_in (t ∷ ts) x.txn)) xs) (filter (λ x. not (has_ended_in (t ∷ ts) x.txn)) xs)
    by true rest = rest
    by false rest = ap (λ (ys : List Tag). cond (not (has_ended_in ts x.txn)) (x ∷ ys) ys) rest

all_kept : (xs : List Tag) → filter (λ x. not (has_ended_in [] x.txn)) xs ≡ xs
all_kept [] = refl
all_kept (x ∷ xs) = ap (λ (ys : List Tag). x ∷ ys) (all_kept xs)

-- The tags of a page but those of some transactions.
pub each_off : (ts : List Txn) (v : Tags) (page : ℕ) → tags_on (without_each v ts) page ≡ filter (λ x. not (has_ended_in ts x.txn)) (tags_on v page)
each_off [] v page = sym (all_kept (tags_on v page))
each_off (t ∷ ts) v page = each_off ts (without_txn v t) page ∙ ap (λ (xs : List Tag). filter (λ x. not (has_ended_in ts x.txn)) xs) (one_off v t page) ∙ both_off (tags_on v page) t ts

abbrev pub binds : Work → Tag → Bool
binds w t = not (is_own w t.txn && is_ended w t.txn)

-- What is told of a page then.
pub left_off : (w : Work) (ts : List Txn) (page : ℕ) → record (left_of w page) { tags = filter (λ x. not (has_ended_in ts x.txn)) (left_of w page).tags } ≡ left_of (ended_off w ts) page
left_off w ts page =
    ap (λ (xs : List Tag). record (left_of w page) { tags = xs }) (
    filter_swap (λ x. not (has_ended_in ts x.txn)) (binds w) (tags_on w.tags page) ∙ ap (λ (xs : List Tag). filter (binds w) xs) (sym (each_off ts w.tags page))
    )
