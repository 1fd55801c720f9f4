-- The place of a tag in an order, by halving, and what comes into an order and leaves it.
use Rattle.std.proofs.Common.{◌≡◌, ◌<◌, ◌≤◌, ◌+◌, ℕ, zero, suc, Bool, true, false, cond, List, [], ◌∷◌, ◌++◌, length, length-append, get_or, insert, remove, refl, ap, sym, subst, ◌∙◌, arith, inl, inr}
use Rattle.std.specs.Prelude.{filter, nat_eq, nat_lt, IfSome, IsSome, is_some, slice_get, slice_index_or}
use Rattle.std.specs.Option.{option_copied}
use Rattle.std.specs.Borrow.{Bor}
use Rattle.std.specs.List.{AllByRecursion}
use Rattle.std.specs.Ordering.{is_lt, ordering_reverse}
use Rattle.std.specs.Map.{lookup}
use Rattle.std.specs.declared.cmp.Ordering.{Ordering}
use Rattle.std.specs.declared.cmp.Ordering.TheVariants.{Less, Equal, Greater}
use Rattle.std.proofs.lemmas.List.Elements.{filter-append}
use Rattle.std.specs.declared.option.Option.{Option}
use Rattle.std.specs.declared.option.Option.TheVariants.{None, Some}
use Rattle.std.proofs.lemmas.Bool.Decides.{nat_tests}
use Rattle.lock_table.specs.declared.node.Link.{Link}
use Rattle.lock_table.specs.Tags.{PageTag, tag_cmp, tag_cmp-total}
use Rattle.lock_table.specs.Inside.{Entry, Ascend, IsOrder, KeepOrder, KeepsOthers, Becomes, Reorders, places, by, gap_of, head_of, last_of, upto, from}
use Rattle.lock_table.proofs.Filters.{mid_yes, mid_no, Here}
use Rattle.lock_table.proofs.Tables.{all_at}
use Rattle.lock_table.proofs.Values.{ascend_filter}
use Rattle.lock_table.proofs.Places.{upto_from, upto_filter, from_filter, none_below}

-- ---- which tag stands at a place of an order

pub record AtPlace (at : ℕ → Option PageTag) (t : PageTag) (es : List Entry) (m : ℕ) : Type 0 where
  pub tag : PageTag
  pub there : at (get_or (places es) m 0) ≡ Some tag
  pub below : is_lt (tag_cmp tag t) ≡ true → m < length (upto t es)
  pub above : is_lt (tag_cmp tag t) ≡ false → length (upto t es) ≤ m

record High (at : ℕ → Option PageTag) (t : PageTag) (es : List Entry) (m : ℕ) : Type 0 where
  pub tag : PageTag
  pub there : at (get_or (places es) m 0) ≡ Some tag
  pub high : is_lt (tag_cmp tag t) ≡ false

high_at : (at : ℕ → Option PageTag) (t : PageTag) (es : List Entry) (m : ℕ) → m < length es → AllByRecursion (λ y. is_lt (tag_cmp y.1 t) ≡ false) es → Here at es → High at t es m
high_at at t [] m less a h = absurd (omega (arith, less))
high_at at t (e ∷ es) zero less a h = record { tag = e.1; there = h.0; high = a.0 }
high_at at t (e ∷ es) (suc m) less a h = let r = high_at at t es m (omega (arith, less)) a.1 h.1 in record { tag = r.tag; there = r.there; high = r.high }

pub at_place : (at : ℕ → Option PageTag) (t : PageTag) (es : List Entry) (m : ℕ) → m < length es → Ascend es → Here at es → AtPlace at t es m
at_place at t [] m less a h = absurd (omega (arith, less))
at_place at t (e ∷ es) zero less a h = go (is_lt (tag_cmp e.1 t)) refl
  where
    go : (b : Bool) → is_lt (tag_cmp e.1 t) ≡ b → AtPlace at t (e ∷ es) zero
    go true is =
        let long : length (upto t (e ∷ es)) ≡ suc (length (upto t es)) = ap (λ (c : Bool). length (cond c (e ∷ upto t es) [])) is in
        record { tag = e.1; there = h.0; below = λ _. omega (arith, long); above = λ no. absurd (cc (is, no)) }
    go false is =
        let long : length (upto t (e ∷ es)) ≡ 0 = ap (λ (c : Bool). length (cond c (e ∷ upto t es) [])) is in
        record { tag = e.1; there = h.0; below = λ yes. absurd (cc (is, yes)); above = λ _. omega (arith, long) }
at_place at t (e ∷ es) (suc m) less a h = go (is_lt (tag_cmp e.1 t)) refl (at_place at t es m (omega (arith, less)) a.1 h.1)
  where
    go : (b : Bool) → is_lt (tag_cmp e.1 t) ≡ b → AtPlace at t es m → AtPlace at t (e ∷ es) (suc m)
    go true is r =
        let long : length (upto t (e ∷ es)) ≡ suc (length (upto t es)) = ap (λ (c : Bool). length (cond c (e ∷ upto t es) [])) is in
        record { tag = r.tag; there = r.there; below = λ yes. omega (arith, long, r.below yes); above = λ no. omega (arith, long, r.above no) }
    go false is r =
        let long : length (upto t (e ∷ es)) ≡ 0 = ap (λ (c : Bool). length (cond c (e ∷ upto t es) [])) is in
        let k = high_at at t es m (omega (arith, less)) (none_below t e es is a.0) h.1 in
        record { tag = k.tag; there = k.there; below = λ yes. absurd (cc (k.high, yes)); above = λ _. omega (arith, long) }

pub length_places : (es : List Entry) → length (places es) ≡ length es
length_places [] = refl
length_places (e ∷ es) = ap (λ (n : ℕ). suc n) (length_places es)

pub upto_within : (t : PageTag) (es : List Entry) → length (upto t es) ≤ length es
upto_within t [] = omega arith
upto_within t (e ∷ es) = go (is_lt (tag_cmp e.1 t)) (upto_within t es)
  where
    go : (b : Bool) → length (upto t es) ≤ length es → length (cond b (e ∷ upto t es) []) ≤ suc (length es)
    go true r = omega (arith, r)
    go false r = omega arith

-- ---- the gap at a place

pub last_none : (xs : List Entry) → length xs ≡ 0 → last_of None xs ≡ None
last_none [] h = refl
last_none (x ∷ xs) h = absurd (omega (arith, h))

pub last_at : (xs ys : List Entry) (prev : Option ℕ) (k : ℕ) → length xs ≡ k + 1 → last_of prev xs ≡ slice_get (places (xs ++ ys)) k
last_at [] ys prev k h = absurd (omega (arith, h))
last_at (x ∷ []) ys prev zero h = refl
last_at (x ∷ []) ys prev (suc k) h = absurd (omega (arith, h))
last_at (x ∷ y ∷ xs) ys prev zero h = absurd (omega (arith, h))
last_at (x ∷ y ∷ xs) ys prev (suc k) h = last_at (y ∷ xs) ys (Some x.0) k (omega (arith, h))

pub next_at : (xs ys : List Entry) → head_of ys None ≡ slice_get (places (xs ++ ys)) (length xs)
next_at [] [] = refl
next_at [] (y ∷ ys) = refl
next_at (x ∷ xs) ys = next_at xs ys

-- ---- one place more, and one less

pub places_with : (e : Entry) (xs ys : List Entry) → insert (places (xs ++ ys)) (length xs) e.0 ≡ places (xs ++ e ∷ ys)
places_with e [] ys = refl
places_with e (x ∷ xs) ys = ap (λ (zs : List ℕ). x.0 ∷ zs) (places_with e xs ys)

pub places_without : (e : Entry) (xs ys : List Entry) → remove (places (xs ++ e ∷ ys)) (length xs) ≡ places (xs ++ ys)
places_without e [] ys = refl
places_without e (x ∷ xs) ys = ap (λ (zs : List ℕ). x.0 ∷ zs) (places_without e xs ys)

not_itself : (o : Ordering) → o ≡ ordering_reverse o → is_lt o ≡ false
not_itself Less h = absurd (cc (h))
not_itself Equal h = refl
not_itself Greater h = refl

-- what stands before a tag of a list
pub before_it : (t : PageTag) (key : ℕ) (xs ys : List Entry) → Ascend (xs ++ (key, t) ∷ ys) → upto t (xs ++ (key, t) ∷ ys) ≡ xs
before_it t key [] ys a = ap (λ (b : Bool). cond b ((key, t) ∷ upto t ys) []) (not_itself (tag_cmp t t) (tag_cmp-total.antisymm t t))
before_it t key (x ∷ xs) ys a =
    ap (λ (o : Ordering). cond (is_lt o) (x ∷ upto t (xs ++ (key, t) ∷ ys)) []) (all_at (λ (z : Entry). tag_cmp x.1 z.1 ≡ Less) (key, t) xs ys a.0)
    ∙ ap (λ (zs : List Entry). x ∷ zs) (before_it t key xs ys a.1)

-- ---- the orders after one has changed

same_list : (o : Option (List ℕ)) (a b : List Entry) → b ≡ a → IsOrder o a → IsOrder o b
same_list o a b is h = subst (λ (z : List Entry). IsOrder o z) (sym is) h

-- An order that isn't kept says nothing.
pub unkept : (o : Option (List ℕ)) (es : List Entry) → o ≡ None → IsOrder o es
unkept o es none = subst (λ (z : Option (List ℕ)). IsOrder z es) (sym none) tt

-- One that is kept is that of its list.
pub order_of : (o : Option (List ℕ)) (order : List ℕ) (es : List Entry) → Some order ≡ o → IsOrder o es → order ≡ places es
order_of o order es is h = subst (λ (z : Option (List ℕ)). IsOrder z es) (sym is) h

module _ {K : Type 0} (eq : K → K → Bool) where
  pub reordered : (old new : List (K × List ℕ)) (key : K) (order : List ℕ) (es : List Entry) → Reorders eq old new key order → order ≡ places es → IsOrder (lookup (eq key) new) es
  reordered old new key order es (inl b) is = subst (λ (z : Option (List ℕ)). IsOrder z es) (sym b.0) is
  reordered old new key order es (inr b) is = subst (λ (z : Option (List ℕ)). IsOrder z es) (sym b.0) tt

  pub others_stay : (old new : List (K × List ℕ)) (key : K) (order : List ℕ) → Reorders eq old new key order → KeepsOthers eq old new key
  others_stay old new key order (inl b) = b.1
  others_stay old new key order (inr b) = b.1

  module _ (exact : (a b : K) → eq a b ≡ true → a ≡ b) (part : K → PageTag → Bool) where
    -- The order under a key is that of its list, and the other lists are what they were.
    pub all_ordered : (old new : List (K × List ℕ)) (key : K) (es es' : List Entry) → IsOrder (lookup (eq key) new) (filter (by (part key)) es') → KeepsOthers eq old new key
        → ((k : K) → eq key k ≡ false → filter (by (part k)) es' ≡ filter (by (part k)) es) → KeepOrder eq part old es → KeepOrder eq part new es'
    all_ordered old new key es es' here others same h k = go (eq key k) refl
      where
        go : (b : Bool) → eq key k ≡ b → IsOrder (lookup (eq k) new) (filter (by (part k)) es')
        go true is = subst (λ (z : K). IsOrder (lookup (eq z) new) (filter (by (part z)) es')) (exact key k is) here
        go false is = subst (λ (z : Option (List ℕ)). IsOrder z (filter (by (part k)) es')) (sym (others k is)) (same_list (lookup (eq k) old) (filter (by (part k)) es) (filter (by (part k)) es') (same k is) (h k))

    -- An order is kept no more.
    pub less_ordered : (old new : List (K × List ℕ)) (key : K) (es : List Entry) → Becomes eq old new key None → KeepOrder eq part old es → KeepOrder eq part new es
    less_ordered old new key es b h = all_ordered old new key es es (unkept (lookup (eq key) new) (filter (by (part key)) es) b.0) b.1 (λ k is. refl) h

pub same_page : (a b : ℕ) → nat_eq a b ≡ true → a ≡ b
same_page a b is = grind (arith, nat_tests)

-- ---- a list with one more

last_some : (k : ℕ) (xs : List Entry) → IsSome (last_of (Some k) xs)
last_some k [] = refl
last_some k (x ∷ xs) = last_some x.0 xs

no_last : (xs : List Entry) → last_of None xs ≡ None → xs ≡ []
no_last [] h = refl
no_last (x ∷ xs) h = absurd (let some = last_some x.0 xs in cc (h, some))

no_head : (ys : List Entry) → head_of ys None ≡ None → ys ≡ []
no_head [] h = refl
no_head (y ∷ ys) h = absurd (cc (h))

pub elsewhere_with : (u : PageTag → Bool) (t : PageTag) (key : ℕ) (es : List Entry) → u t ≡ false → filter (by u) (upto t es ++ (key, t) ∷ from t es) ≡ filter (by u) es
elsewhere_with u t key es is = mid_no u (key, t) (upto t es) (from t es) is ∙ ap (λ (z : List Entry). filter (by u) z) (sym (upto_from t es))

module _ (u : PageTag → Bool) (t : PageTag) (yes : u t ≡ true) where
  part_with : (key : ℕ) (es : List Entry) → Ascend es → filter (by u) (upto t es ++ (key, t) ∷ from t es) ≡ upto t (filter (by u) es) ++ (key, t) ∷ from t (filter (by u) es)
  part_with key es a =
      mid_yes u (key, t) (upto t es) (from t es) yes
      ∙ (ap (λ (z : List Entry). z ++ (key, t) ∷ filter (by u) (from t es)) (sym (upto_filter t u es a)) ∙ ap (λ (z : List Entry). upto t (filter (by u) es) ++ (key, t) ∷ z) (sym (from_filter t u es a)))

  -- The place that comes in at the tag's place.
  pub order_with : (key at : ℕ) (order : List ℕ) (es : List Entry) → Ascend es → order ≡ places (filter (by u) es) → at ≡ length (upto t (filter (by u) es))
      → insert order at key ≡ places (filter (by u) (upto t es ++ (key, t) ∷ from t es))
  order_with key at order es a is at_is =
      let fs : List Entry = filter (by u) es in
      ap (λ (z : List ℕ). insert z at key) (is ∙ ap (λ (z : List Entry). places z) (upto_from t fs))
      ∙ (ap (λ (k : ℕ). insert (places (upto t fs ++ from t fs)) k key) at_is ∙ (places_with (key, t) (upto t fs) (from t fs) ∙ ap (λ (z : List Entry). places z) (sym (part_with key es a))))

  -- The first place of a list.
  pub order_one : (key : ℕ) (gap : Link) (es : List Entry) → Ascend es → gap ≡ gap_of (upto t (filter (by u) es)) (from t (filter (by u) es)) → gap.prev ≡ None → gap.next ≡ None
      → key ∷ [] ≡ places (filter (by u) (upto t es ++ (key, t) ∷ from t es))
  order_one key gap es a is prev next =
      let fs : List Entry = filter (by u) es in
      let xs : upto t fs ≡ [] = no_last (upto t fs) (sym (ap (λ (l : Link). l.prev) is) ∙ prev) in
      let ys : from t fs ≡ [] = no_head (from t fs) (sym (ap (λ (l : Link). l.next) is) ∙ next) in
      sym (ap (λ (z : List Entry). places z) (part_with key es a) ∙ (ap (λ (z : List Entry). places (z ++ (key, t) ∷ from t fs)) xs ∙ ap (λ (z : List Entry). places ((key, t) ∷ z)) ys))

  -- The place at the tag's place goes out.
  pub order_without : (key at : ℕ) (order : List ℕ) (xs ys : List Entry) → Ascend (xs ++ (key, t) ∷ ys) → order ≡ places (filter (by u) (xs ++ (key, t) ∷ ys))
      → at ≡ length (upto t (filter (by u) (xs ++ (key, t) ∷ ys))) → (at < length order) × (remove order at ≡ places (filter (by u) (xs ++ ys)))
  order_without key at order xs ys a is at_is =
      let fx : List Entry = filter (by u) xs in
      let fy : List Entry = filter (by u) ys in
      let mid = mid_yes u (key, t) xs ys yes in
      let order_is : order ≡ places (fx ++ (key, t) ∷ fy) = is ∙ ap (λ (z : List Entry). places z) mid in
      let place : at ≡ length fx =
      at_is ∙ (ap (λ (z : List Entry). length (upto t z)) mid ∙ ap (λ (z : List Entry). length z) (before_it t key fx fy (subst Ascend mid (ascend_filter u (xs ++ (key, t) ∷ ys) a)))) in
      let long : length order ≡ length (fx ++ (key, t) ∷ fy) = ap (λ (z : List ℕ). length z) order_is ∙ length_places (fx ++ (key, t) ∷ fy) in
      let parts = length-append fx ((key, t) ∷ fy) in (
        omega (arith, place, long, parts),
        ap (λ (z : List ℕ). remove z at) order_is ∙ (ap (λ (k : ℕ). remove (places (fx ++ (key, t) ∷ fy)) k) place ∙ (places_without (key, t) fx fy ∙ ap (λ (z : List Entry). places z) (sym (filter-append (by u) xs ys)))),
      )

-- ---- what a look at a place gives

past : (xs : List ℕ) (i : ℕ) → length xs ≤ i → slice_get xs i ≡ None
past [] i h = refl
past (x ∷ xs) zero h = absurd (omega (arith, h))
past (x ∷ xs) (suc i) h = past xs i (omega (arith, h))

inside : (xs : List ℕ) (i d : ℕ) → i < length xs → slice_get xs i ≡ Some (slice_index_or xs i d)
inside [] i d h = absurd (omega (arith, h))
inside (x ∷ xs) zero d h = refl
inside (x ∷ xs) (suc i) d h = inside xs i d (omega (arith, h))

pub got : (xs : List ℕ) (i : ℕ) (r : Option (Bor ℕ)) → is_some r ≡ nat_lt i (length xs) → IfSome r (λ x. x.now ≡ slice_index_or xs i x.now) → option_copied r ≡ slice_get xs i
got xs i None some at = sym (past xs i (grind (arith, nat_tests)))
got xs i (Some x) some at = let less : i < length xs = grind (arith, nat_tests) in ap (λ (n : ℕ). Some n) at ∙ sym (inside xs i x.now less)
