-- The set of tags that the nodes stand for.
use Rattle.std.proofs.Common.{◌≡◌, inl, inr, ℕ, suc, zero, Bool, true, false, cond, List, [], ◌∷◌, length, refl, ap, sym, subst, ◌∙◌, arith}
use Rattle.std.specs.Prelude.{filter_map, map, ◌||◌, IsSome}
use Rattle.std.specs.List.{AllByRecursion, list_any}
use Rattle.std.specs.Ordering.{eq_by_cmp}
use Rattle.std.specs.Cmp.{both_ways}
use Rattle.std.specs.FinMap as fin
use Rattle.std.specs.FinMap.Entries.{put, by_order}
use Rattle.std.specs.declared.cmp.Ordering.{Ordering}
use Rattle.std.specs.declared.cmp.Ordering.TheVariants.{Less}
use Rattle.std.specs.declared.option.Option.{Option}
use Rattle.std.specs.declared.option.Option.TheVariants.{None, Some}
use Rattle.std.specs.Prelude.{slice_index_or}
use Rattle.slab.specs.Slab.{Slab}
use Rattle.lock_table.specs.declared.node.Node.{Node}
use Rattle.lock_table.specs.Tags.{PageTag, Tags, tag_cmp, tag_cmp-total, tag_cmp-exact, marked, set_of, items}
use Rattle.lock_table.specs.Inside.{Entry, Ascend, IsIn, tag_at, tag_of_node, tag_in, tags_in}
use Rattle.lock_table.proofs.Filters.{Here}

abbrev pub tags : List Entry → List PageTag
tags es = map (λ e. e.1) es

module _ (p : PageTag → Bool) where
  -- a tag of a list of slots that passes, and where
  pub record Found (at : ℕ → Option PageTag) : Type 0 where
    pub key : ℕ
    pub tag : PageTag
    pub there : at key ≡ Some tag
    pub passes : p tag ≡ true

  abbrev slot_at : List (Option Node) → ℕ → Option PageTag
  slot_at slots k = tag_of_node (slice_index_or slots k None)

  any_slot : (slots : List (Option Node)) → list_any p (filter_map tag_of_node slots) ≡ true → Found (slot_at slots)
  any_slot [] h = absurd (cc (h))
  any_slot (None ∷ slots) h = let f = any_slot slots h in record { key = suc f.key; tag = f.tag; there = f.there; passes = f.passes }
  any_slot (Some n ∷ slots) h = at (p (tag_in n)) refl h (any_slot slots)
    where
      at : (b : Bool) → p (tag_in n) ≡ b → (b || list_any p (filter_map tag_of_node slots)) ≡ true → (list_any p (filter_map tag_of_node slots) ≡ true → Found (slot_at slots)) → Found (slot_at (Some n ∷ slots))
      at true is h r = record { key = zero; tag = tag_in n; there = refl; passes = is }
      at false is h r = let f = r h in record { key = suc f.key; tag = f.tag; there = f.there; passes = f.passes }

  or_right : (a : Bool) → (a || true) ≡ true
  or_right true = refl
  or_right false = refl

  slot_any : (slots : List (Option Node)) (k : ℕ) (x : PageTag) → slot_at slots k ≡ Some x → p x ≡ true → list_any p (filter_map tag_of_node slots) ≡ true
  slot_any [] k x h is = absurd (cc (h))
  slot_any (None ∷ slots) zero x h is = absurd (cc (h))
  slot_any (None ∷ slots) (suc k) x h is = slot_any slots k x h is
  slot_any (Some n ∷ slots) zero x h is = let same : tag_in n ≡ x = cc (h) in ap (λ (b : Bool). b || list_any p (filter_map tag_of_node slots)) (ap p same ∙ is)
  slot_any (Some n ∷ slots) (suc k) x h is = ap (λ (b : Bool). p (tag_in n) || b) (slot_any slots k x h is) ∙ or_right (p (tag_in n))

  any_entry : (at : ℕ → Option PageTag) (es : List Entry) → Here at es → list_any p (tags es) ≡ true → Found at
  any_entry at [] h is = absurd (cc (is))
  any_entry at (e ∷ es) h is = one (p e.1) refl is (any_entry at es h.1)
    where
      one : (b : Bool) → p e.1 ≡ b → (b || list_any p (tags es)) ≡ true → (list_any p (tags es) ≡ true → Found at) → Found at
      one true passed is r = record { key = e.0; tag = e.1; there = h.0; passes = passed }
      one false other is r = r is

  pub entry_any : (at : ℕ → Option PageTag) (es : List Entry) (k : ℕ) (x : PageTag) → Here at es → IsIn k es → at k ≡ Some x → p x ≡ true → list_any p (tags es) ≡ true
  entry_any at [] k x h i is passed = absurd i
  entry_any at (e ∷ es) k x h (inl here) is passed =
      let both : Some e.1 ≡ Some x = sym h.0 ∙ (ap at here ∙ is) in
      let same : e.1 ≡ x = cc (both) in
      ap (λ (b : Bool). b || list_any p (tags es)) (ap p same ∙ passed)
  entry_any at (e ∷ es) k x h (inr there) is passed = ap (λ (b : Bool). p e.1 || b) (entry_any at es k x h.1 there is passed) ∙ or_right (p e.1)

  pub same_any : (s : Slab Node) (es : List Entry) → Here (tag_at s) es → ((k : ℕ) → IsSome (tag_at s k) → IsIn k es) → list_any p (tags_in s) ≡ list_any p (tags es)
  same_any s es here all =
      both_ways (list_any p (tags_in s)) (list_any p (tags es))
      (λ h. let f = any_slot s.slots h in entry_any (tag_at s) es f.key f.tag here (all f.key (subst (λ (o : Option PageTag). IsSome o) (sym f.there) refl)) f.there f.passes)
      (λ h. let f = any_entry (tag_at s) es here h in slot_any s.slots f.key f.tag f.there f.passes)

abbrev pub mark : Bool → Option (Unit {0})
mark b = cond b (Some tt) None

pub find_marked : (ts : List PageTag) (q : PageTag) → fin.find tag_cmp q (marked ts) ≡ mark (list_any (eq_by_cmp tag_cmp q) ts)
find_marked [] q = refl
find_marked (t ∷ ts) q = at (eq_by_cmp tag_cmp q t) (find_marked ts q)
  where
    at : (b : Bool) → fin.find tag_cmp q (marked ts) ≡ mark (list_any (eq_by_cmp tag_cmp q) ts) → cond b (Some tt) (fin.find tag_cmp q (marked ts)) ≡ mark (b || list_any (eq_by_cmp tag_cmp q) ts)
    at true r = refl
    at false r = r

pub get_set : (ts : List PageTag) (q : PageTag) → fin.get (set_of ts) q ≡ mark (list_any (eq_by_cmp tag_cmp q) ts)
get_set ts q = fin.get-from_entries tag_cmp-total (marked ts) q ∙ find_marked ts q

-- lists with the same tags make one set
pub same_set : (xs ys : List PageTag) → ((q : PageTag) → list_any (eq_by_cmp tag_cmp q) xs ≡ list_any (eq_by_cmp tag_cmp q) ys) → set_of xs ≡ set_of ys
same_set xs ys h = fin.same_map tag_cmp-total tag_cmp-exact _ _ (λ q. get_set xs q ∙ (ap mark (h q) ∙ sym (get_set ys q)))

-- the set of the nodes' tags is that of the list
pub view_is : (s : Slab Node) (es : List Entry) → Here (tag_at s) es → ((k : ℕ) → IsSome (tag_at s k) → IsIn k es) → set_of (tags_in s) ≡ set_of (tags es)
view_is s es here all = same_set (tags_in s) (tags es) (λ q. same_any (eq_by_cmp tag_cmp q) s es here all)

-- ---- its items

abbrev Rises : List PageTag → Type 0
Rises [] = Unit {0}
Rises (t ∷ ts) = AllByRecursion (λ x. tag_cmp t x ≡ Less) ts × Rises ts

none_of_length : (zs : List (PageTag × Unit {0})) → length zs ≡ 0 → zs ≡ []
none_of_length [] h = refl
none_of_length (z ∷ zs) h = absurd (omega arith)

keys_marked : (ts : List PageTag) → map (λ k. k.0) (marked ts) ≡ ts
keys_marked [] = refl
keys_marked (t ∷ ts) = ap (λ (z : List PageTag). t ∷ z) (keys_marked ts)

put_first : (t : PageTag) (zs : List PageTag) → AllByRecursion (λ x. tag_cmp t x ≡ Less) zs → put tag_cmp t tt (marked zs) ≡ (t, tt) ∷ marked zs
put_first t [] h = refl
put_first t (z ∷ zs) h = ap (λ (o : Ordering). by_order o ((t, tt) ∷ (z, tt) ∷ marked zs) ((z, tt) ∷ marked zs) ((z, tt) ∷ put tag_cmp t tt (marked zs))) h.0

entries_are : (ts : List PageTag) → Rises ts → fin.entries (set_of ts) ≡ marked ts
entries_are [] a = none_of_length _ (sym (fin.len-entries (fin.empty {X = Unit {0}} {R = tag_cmp})) ∙ fin.len-empty tag_cmp (Unit {0}))
entries_are (t ∷ ts) a = fin.entries-insert tag_cmp-total (set_of ts) t tt ∙ (ap (put tag_cmp t tt) (entries_are ts a.1) ∙ put_first t ts a.0)

rise_all : (t : PageTag) (es : List Entry) → AllByRecursion (λ x. tag_cmp t x.1 ≡ Less) es → AllByRecursion (λ x. tag_cmp t x ≡ Less) (tags es)
rise_all t [] a = tt
rise_all t (e ∷ es) a = (a.0, rise_all t es a.1)

rise : (es : List Entry) → Ascend es → Rises (tags es)
rise [] a = tt
rise (e ∷ es) a = (rise_all e.1 es a.0, rise es a.1)

pub items_are : (es : List Entry) → Ascend es → items (set_of (tags es)) ≡ tags es
items_are es a = ap (λ (zs : List (PageTag × Unit {0})). map (λ k. k.0) zs) (entries_are (tags es) (rise es a)) ∙ keys_marked (tags es)

-- the set of its own items
keys_find : (zs : List (PageTag × Unit {0})) → marked (map (λ k. k.0) zs) ≡ zs
keys_find [] = refl
keys_find (z ∷ zs) = ap (λ (y : List (PageTag × Unit {0})). z ∷ y) (keys_find zs)

pub set_again : (s : Tags) → set_of (items s) ≡ s
set_again s = fin.same_map tag_cmp-total tag_cmp-exact _ _ (λ q. fin.get-from_entries tag_cmp-total (marked (items s)) q ∙ (ap (λ (z : List (PageTag × Unit {0})). fin.find tag_cmp q z) (keys_find (fin.entries s)) ∙ sym (fin.get-entries s q)))
