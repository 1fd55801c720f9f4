-- What all tags of a set are, after each change of the set.
use Rattle.std.proofs.Common.{◌≡◌, ℕ, Bool, true, false, cond, List, [], ◌∷◌, refl, ap, sym, subst, ◌∙◌, map}
use Rattle.std.specs.Prelude.{◌||◌, filter, is_some}
use Rattle.std.specs.List.{AllByRecursion, list_any}
use Rattle.std.specs.Ordering.{eq_by_cmp, is_eq}
use Rattle.std.specs.Cmp.{tied_itself}
use Rattle.std.specs.FinMap as fin
use Rattle.std.specs.declared.cmp.Ordering.{Ordering}
use Rattle.std.specs.declared.cmp.Ordering.TheVariants.{Less, Equal, Greater}
use Rattle.std.specs.declared.option.Option.{Option}
use Rattle.std.specs.declared.option.Option.TheVariants.{Some}
use Rattle.tm_data.specs.declared.transaction.Txn.{Txn}
use Rattle.tm_data.specs.Orders.{txn_cmp, txn_cmp-exact}
use Rattle.tm_base.specs.declared.message.Tag.{Tag}
use Rattle.lock_table.specs.Tags.{PageTag, Tags, items, moved, moved_tag, no_tags, page_tag, set_of, tag_cmp, tag_cmp-exact, tag_cmp-total, with_tags}

-- ---- the order of tags

is_equal : (r : Ordering) → is_eq r ≡ true → r ≡ Equal
is_equal Less is = absurd (cc is)
is_equal Equal is = refl
is_equal Greater is = absurd (cc is)

pub eq_txn : (a b : Txn) → eq_by_cmp txn_cmp a b ≡ true → a ≡ b
eq_txn a b is = txn_cmp-exact a b (is_equal (txn_cmp a b) is)

eq_tag : (a b : PageTag) → eq_by_cmp tag_cmp a b ≡ true → a ≡ b
eq_tag a b is = tag_cmp-exact a b (is_equal (tag_cmp a b) is)

-- ---- all tags of a set

abbrev pub AllTags : (PageTag → Type 0) → Tags → Type 0
AllTags P tags = (t : PageTag) → fin.contains_key tags t ≡ true → P t

no_tag : (t : PageTag) → fin.contains_key no_tags t ≡ true → ⊥
no_tag t is = let h : false ≡ true = sym (ap (λ (o : Option (Unit {0})). is_some o) (fin.get-empty tag_cmp t)) ∙ is in cc h

some_or : (b : Bool) (o : Option (Unit {0})) → is_some (cond b (Some tt) o) ≡ (b || is_some o)
some_or true o = refl
some_or false o = refl

-- A tag of a set with one more is that one, or of the set.
has_inserted : (tags : Tags) (new t : PageTag) → fin.contains_key (fin.insert tags new tt) t ≡ (eq_by_cmp tag_cmp t new || fin.contains_key tags t)
has_inserted tags new t = ap (λ (o : Option (Unit {0})). is_some o) (fin.get-insert tag_cmp-total tags new tt t) ∙ some_or (eq_by_cmp tag_cmp t new) (fin.get tags t)

module _ (P : PageTag → Type 0) where
  pub all_none : AllTags P no_tags
  all_none t is = absurd (no_tag t is)

  pub all_inserted : (tags : Tags) (new : PageTag) → AllTags P tags → P new → AllTags P (fin.insert tags new tt)
  all_inserted tags new h at t is = by (eq_by_cmp tag_cmp t new) refl (sym (has_inserted tags new t) ∙ is)
    where
      by : (b : Bool) → eq_by_cmp tag_cmp t new ≡ b → (b || fin.contains_key tags t) ≡ true → P t
      by true same k = subst P (sym (eq_tag t new same)) at
      by false same k = h t k

  pub all_with : (tags : Tags) (page : ℕ) (ts : List Tag) → AllTags P tags → AllByRecursion (λ (t : Tag). P (page_tag page t.key t.txn)) ts → AllTags P (with_tags tags page ts)
  all_with tags page [] h k = h
  all_with tags page (t ∷ ts) h k = all_with (fin.insert tags (page_tag page t.key t.txn) tt) page ts (all_inserted tags (page_tag page t.key t.txn) h k.0) k.1

  all_listed : (ts : List PageTag) → AllByRecursion P ts → AllTags P (set_of ts)
  all_listed [] h = all_none
  all_listed (t ∷ ts) h = all_inserted (set_of ts) t (all_listed ts h.1) h.0

  all_items_of : (ts : List PageTag) → ((t : PageTag) → list_any (eq_by_cmp tag_cmp t) ts ≡ true → P t) → AllByRecursion P ts
  all_items_of [] h = tt
  all_items_of (t ∷ ts) h = (h t (or_left (eq_by_cmp tag_cmp t t) _ (ap is_eq (tied_itself tag_cmp-total t))), all_items_of ts (λ q k. h q (or_right (eq_by_cmp tag_cmp q t) (list_any (eq_by_cmp tag_cmp q) ts) k)))
    where
      or_right : (a b : Bool) → b ≡ true → (a || b) ≡ true
      or_right true b k = refl
      or_right false b k = k

      or_left : (a b : Bool) → a ≡ true → (a || b) ≡ true
      or_left true b k = refl
      or_left false b k = absurd (cc k)

  pub all_items : (tags : Tags) → AllTags P tags → AllByRecursion P (items tags)
  all_items tags h = all_items_of (items tags) (λ t k. h t (fin.contains_key-keys tags t ∙ k))

-- What is left of some tags passes the test.
all_left : (P : PageTag → Type 0) (test : PageTag → Bool) (ts : List PageTag) → AllByRecursion P ts → AllByRecursion (λ (t : PageTag). P t × (test t ≡ true)) (filter test ts)
all_left P test [] h = tt
all_left P test (t ∷ ts) h = by (test t) refl (all_left P test ts h.1)
  where
    by : (b : Bool) → test t ≡ b → AllByRecursion (λ (t : PageTag). P t × (test t ≡ true)) (filter test ts) → AllByRecursion (λ (t : PageTag). P t × (test t ≡ true)) (cond b (t ∷ filter test ts) (filter test ts))
    by true is rest = ((h.0, is), rest)
    by false is rest = rest

pub left_passes : (tags : Tags) (test : PageTag → Bool) (t : PageTag) → fin.contains_key (set_of (filter test (items tags))) t ≡ true → (fin.contains_key tags t ≡ true) × (test t ≡ true)
left_passes tags test t is =
    all_listed (λ (x : PageTag). (fin.contains_key tags x ≡ true) × (test x ≡ true)) (filter test (items tags)) (all_left (λ (x : PageTag). fin.contains_key tags x ≡ true) test (items tags) (all_items (λ (x : PageTag). fin.contains_key tags x ≡ true) tags (λ x k. k))) t is

all_mapped : (P Q : PageTag → Type 0) (f : PageTag → PageTag) (ts : List PageTag) → ((t : PageTag) → P t → Q (f t)) → AllByRecursion P ts → AllByRecursion Q (map f ts)
all_mapped P Q f [] h k = tt
all_mapped P Q f (t ∷ ts) h k = (h t k.0, all_mapped P Q f ts h k.1)

pub all_moved : (P Q : PageTag → Type 0) (tags : Tags) (page : ℕ) (at : List ℕ) (to : ℕ) → ((t : PageTag) → P t → Q (moved_tag page at to t)) → AllTags P tags → AllTags Q (moved tags page at to)
all_moved P Q tags page at to h k = all_listed Q (map (moved_tag page at to) (items tags)) (all_mapped P Q (moved_tag page at to) (items tags) h (all_items P tags k))
