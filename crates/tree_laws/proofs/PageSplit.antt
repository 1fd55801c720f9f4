-- A page that splits under its parent keeps the tiling.
use Rattle.std.proofs.Common.{◌≡◌, ◌≢◌, ℕ, ◌+◌, ◌≤◌, true, false, List, [], ◌∷◌, ◌++◌, length, Some, refl, sym, ap, ◌∙◌, subst, arith, inl, inr, ◌⊎◌}
use Rattle.std.specs.List.{AllByRecursion, Contains}
use Rattle.std.specs.Prelude.{IsSome}
use Rattle.tm_data.specs.declared.image.Image.{Image}
use Rattle.tm_data.specs.declared.image.Body.{Body}
use Rattle.tm_data.specs.declared.image.Body.TheVariants.{Blank, Leaf, Inner}
use Rattle.key_fences.specs.Fences.{is_from, is_below, is_within}
use Rattle.page_model.specs.Tree.{Images, Place, level_of, low_of, high_of, is_of, may_hold, children, there, one_below}
use Rattle.page_model.specs.Sound.{IsSound}
use Rattle.page_model.specs.Splits.{Halves}
use Rattle.page_model.specs.Tiling.{Has, Tiles, AreHalves, AreApart, HasRow, rows_of}
use Rattle.tm_data.specs.declared.row.Row.{Row}
use Rattle.std.proofs.lemmas.List.Elements.{Contains-append_left, Contains-append_right, Contains-append_cases}
use Rattle.tree_laws.proofs.ListLemmas.{all_join, all_front, all_back, all_map, all_both}
use Rattle.tree_laws.proofs.FenceLemmas.{both, strictly_within, left_holds, right_holds, halves_apart}
use Rattle.tree_laws.proofs.PlaceLemmas.{IsInside, children_inside}
use Rattle.tree_laws.proofs.ThereLemmas.{IsThere, there_from, there_to, IsRoot, root_from, root_to, of_is, one_image, blank_not_of, one_number}

-- an image with another body
abbrev pub made : Image → Body → ℕ → Image
made i body stamp = record { page = i.page; stamp = record { 0 = stamp }; body = body }

-- what is changed
pub record Changed (images images' : Images) (p f q : ℕ) (a b c : Image) : Type 0 where
  pub at_page : images' p ≡ Some a
  pub at_fresh : images' f ≡ Some b
  pub at_parent : images' q ≡ Some c
  pub others : (x : ℕ) → x ≢ p → x ≢ f → x ≢ q → images' x ≡ images x

-- The facts of a split: i is the page's image, j its parent's, z the blank one; the parent's children are those before
-- the page, the page and those after it.
pub record Facts (images : Images) (table p f q : ℕ) (i j z : Image) (h : Halves) (new : Body) (place : Place) (before after : List Place) : Type 0 where
  pub tiles : Tiles images table
  pub page : Has images table p i
  pub parent : Has images table q j
  pub fresh : images f ≡ Some z
  pub blank : z.body ≡ Blank
  pub own_fresh : z.page.0 ≡ f
  pub level : level_of i.body + 1 ≡ level_of j.body
  pub parted : AreHalves i.body h
  pub at : place.page.0 ≡ p
  pub were : children j.body ≡ before ++ place ∷ after
  pub become : children new ≡ before ++ (record { page = place.page; low = place.low; high = Some h.separator }) ∷ (record { page = z.page; low = Some h.separator; high = place.high }) ∷ after
  pub ended : AllByRecursion (λ (pl : Place). is_below pl.high h.separator ≡ false) before
  pub begun : AllByRecursion (λ (pl : Place). is_from pl.low h.separator ≡ false) after
  pub new_of : is_of table new ≡ true
  pub new_level : level_of new ≡ level_of j.body
  pub new_low : low_of new ≡ low_of j.body
  pub new_high : high_of new ≡ high_of j.body
  pub new_sound : IsSound new

-- which of the pages one is
pub data Which (x p f q : ℕ) : Type 0 where
  ThePage : x ≡ p → Which x p f q
  TheFresh : x ≡ f → Which x p f q
  TheParent : x ≡ q → Which x p f q
  Another : x ≢ p → x ≢ f → x ≢ q → Which x p f q

pub which : (x p f q : ℕ) → Which x p f q
which x p f q = elim (one_number x p) [ inl a ↦ ThePage a | inr a ↦ elim (one_number x f) [ inl b ↦ TheFresh b | inr b ↦ elim (one_number x q) [ inl c ↦ TheParent c | inr c ↦ Another a b c ] ] ]

-- where a page's keys were before
pub record OldOf (images : Images) (table p f x : ℕ) (k : Image) : Type 0 where
  pub y : ℕ
  pub o : Image
  pub has : Has images table y o
  pub level : level_of k.body ≡ level_of o.body
  pub holds : (key : List ℕ) → may_hold k.body key ≡ true → may_hold o.body key ≡ true
  pub at : (x ≡ y) ⊎ ((x ≡ f) × (y ≡ p))

no_rows_above : (b : Body) → 1 ≤ level_of b → rows_of b ≡ []
no_rows_above Blank le = absurd (omega arith)
no_rows_above (Leaf table low high rows) le = absurd (omega arith)
no_rows_above (Inner table level low high first entries) le = refl

pub contains_none : (b : Body) (row : Row) → 1 ≤ level_of b → Contains (rows_of b) row → ⊥
contains_none b row le c = let e = ap (λ (rs : List Row). length rs) (no_rows_above b le) in let lt = c.1 in omega (arith, e, lt)

module _ (images images' : Images) (table p f q stamp : ℕ) (i j z : Image) (h : Halves) (new : Body) (place : Place) (before after : List Place)
    (s : Facts images table p f q i j z h new place before after) (change : Changed images images' p f q (made i h.left stamp) (made z h.right stamp) (made j new stamp)) where
  left_of : is_of table h.left ≡ true
  left_of = subst (λ t. is_of t h.left ≡ true) (of_is table i.body s.page.of) s.parted.table_left

  right_of : is_of table h.right ≡ true
  right_of = subst (λ t. is_of t h.right ≡ true) (of_is table i.body s.page.of) s.parted.table_right

  not_fresh : (x : ℕ) (k : Image) → Has images table x k → x ≢ f
  not_fresh x k has e = let same = one_image images x f k z e has.held s.fresh in blank_not_of table k (ap (λ (m : Image). m.body) same ∙ s.blank) has.of

  is_page : (x : ℕ) (k : Image) → Has images table x k → x ≡ p → k ≡ i
  is_page x k has e = one_image images x p k i e has.held s.page.held

  is_parent : (x : ℕ) (k : Image) → Has images table x k → x ≡ q → k ≡ j
  is_parent x k has e = one_image images x q k j e has.held s.parent.held

  page_not_parent : p ≢ q
  page_not_parent e = let same = one_image images p q i j e s.page.held s.parent.held in let l = ap (λ (m : Image). level_of m.body) same in let k = s.level in absurd (omega (arith, l, k))

  -- what is there and not changed stays
  stays : (level : ℕ) (pl : Place) → IsThere images table level pl → pl.page.0 ≢ p → pl.page.0 ≢ q → IsThere images' table level pl
  stays level pl t np nq =
      let nf = not_fresh pl.page.0 t.image (record { held = t.at; of = t.of }) in
      record { image = t.image; at = change.others pl.page.0 np nf nq ∙ t.at; of = t.of; low = t.low; high = t.high; below = t.below }

  parent_stays : (level : ℕ) (pl : Place) → IsThere images table level pl → pl.page.0 ≡ q → IsThere images' table level pl
  parent_stays level pl t e =
      let same = is_parent pl.page.0 t.image (record { held = t.at; of = t.of }) e in
      record {
        image = made j new stamp;
        at = ap images' e ∙ change.at_parent;
        of = s.new_of;
        low = s.new_low ∙ ap (λ (m : Image). low_of m.body) (sym same) ∙ t.low;
        high = s.new_high ∙ ap (λ (m : Image). high_of m.body) (sym same) ∙ t.high;
        below = ap (λ n. n + 1) (s.new_level ∙ ap (λ (m : Image). level_of m.body) (sym same)) ∙ t.below;
      }

  -- the children of the halves, which are further below
  lower_stays : (level : ℕ) (pl : Place) → level ≡ level_of i.body → IsThere images table level pl → IsThere images' table level pl
  lower_stays level pl is t =
      let has : Has images table pl.page.0 t.image = record { held = t.at; of = t.of } in
      stays level pl t
      (λ e. let l = ap (λ (m : Image). level_of m.body) (is_page pl.page.0 t.image has e) in let b = t.below in absurd (omega (arith, l, is, b)))
      (λ e. let l = ap (λ (m : Image). level_of m.body) (is_parent pl.page.0 t.image has e) in let b = t.below in let k = s.level in absurd (omega (arith, l, is, b, k)))

  pub deeper_stays : (level : ℕ) (pl : Place) → level ≤ level_of i.body → IsThere images table level pl → IsThere images' table level pl
  deeper_stays level pl le t =
      let has : Has images table pl.page.0 t.image = record { held = t.at; of = t.of } in
      stays level pl t
      (λ e. let l = ap (λ (m : Image). level_of m.body) (is_page pl.page.0 t.image has e) in let b = t.below in absurd (omega (arith, l, le, b)))
      (λ e. let l = ap (λ (m : Image). level_of m.body) (is_parent pl.page.0 t.image has e) in let b = t.below in let k = s.level in absurd (omega (arith, l, le, b, k)))

  pub deeper_same : (level : ℕ) (pl : Place) (le : level ≤ level_of i.body) (t : IsThere images table level pl) → (deeper_stays level pl le t).image ≡ t.image
  unfolding deeper_stays stays
  deeper_same level pl le t = refl

  -- the other children of the parent
  holds_separator : is_within (low_of i.body) (high_of i.body) h.separator ≡ true
  holds_separator = strictly_within (low_of i.body) (high_of i.body) h.separator s.parted.inside

  sibling_stays : (level : ℕ) (pl : Place) → level ≡ level_of j.body → (is_below pl.high h.separator ≡ false) ⊎ (is_from pl.low h.separator ≡ false) → IsThere images table level pl → IsThere images' table level pl
  sibling_stays level pl is out t =
      let has : Has images table pl.page.0 t.image = record { held = t.at; of = t.of } in
      let w = both (is_from (low_of i.body) h.separator) (is_below (high_of i.body) h.separator) holds_separator in
      stays level pl t
      (λ e. let same = is_page pl.page.0 t.image has e in
      let lo : pl.low ≡ low_of i.body = sym t.low ∙ ap (λ (m : Image). low_of m.body) same in
      let hi : pl.high ≡ high_of i.body = sym t.high ∙ ap (λ (m : Image). high_of m.body) same in
      elim out [ inl b ↦ (let c = ap (λ o. is_below o h.separator) hi in cc) | inr b ↦ (let c = ap (λ o. is_from o h.separator) lo in cc) ])
      (λ e. let l = ap (λ (m : Image). level_of m.body) (is_parent pl.page.0 t.image has e) in let b = t.below in absurd (omega (arith, l, is, b)))

  abbrev Children : Images → ℕ → List Place → Type 0
  Children set level places = AllByRecursion (IsThere set table level) places

  old_children : (x : ℕ) (k : Image) → Has images table x k → Children images (level_of k.body) (children k.body)
  old_children x k has =
      all_map (λ pl. IsSome (one_below (level_of k.body) (there images table pl))) (IsThere images table (level_of k.body)) (children k.body)
      (there_from images table (level_of k.body)) (s.tiles.children x k has)

  page_children : Children images (level_of i.body) (children h.left ++ children h.right)
  page_children = subst (λ (ps : List Place). Children images (level_of i.body) ps) (sym s.parted.children) (old_children p i s.page)

  left_children : Children images' (level_of h.left) (children h.left)
  left_children =
      all_map (IsThere images table (level_of i.body)) (IsThere images' table (level_of h.left)) (children h.left)
      (λ pl t. subst (λ n. IsThere images' table n pl) (sym s.parted.level_left) (lower_stays (level_of i.body) pl refl t))
      (all_front (IsThere images table (level_of i.body)) (children h.left) (children h.right) page_children)

  right_children : Children images' (level_of h.right) (children h.right)
  right_children =
      all_map (IsThere images table (level_of i.body)) (IsThere images' table (level_of h.right)) (children h.right)
      (λ pl t. subst (λ n. IsThere images' table n pl) (sym s.parted.level_right) (lower_stays (level_of i.body) pl refl t))
      (all_back (IsThere images table (level_of i.body)) (children h.left) (children h.right) page_children)

  parent_children : Children images (level_of j.body) (before ++ place ∷ after)
  parent_children = subst (λ (ps : List Place). Children images (level_of j.body) ps) s.were (old_children q j s.parent)

  place_there : IsThere images table (level_of j.body) place
  place_there = (all_back (IsThere images table (level_of j.body)) before (place ∷ after) parent_children).0

  place_is : place_there.image ≡ i
  place_is = is_page place.page.0 place_there.image (record { held = place_there.at; of = place_there.of }) s.at

  abbrev cut_place : Place
  cut_place = record { page = place.page; low = place.low; high = Some h.separator }

  abbrev fresh_place : Place
  fresh_place = record { page = z.page; low = Some h.separator; high = place.high }

  cut_there : IsThere images' table (level_of new) cut_place
  cut_there = record {
    image = made i h.left stamp;
    at = ap images' s.at ∙ change.at_page;
    of = left_of;
    low = s.parted.low_left ∙ ap (λ (m : Image). low_of m.body) (sym place_is) ∙ place_there.low;
    high = s.parted.high_left;
    below = ap (λ n. n + 1) s.parted.level_left ∙ s.level ∙ sym s.new_level;
  }

  fresh_there : IsThere images' table (level_of new) fresh_place
  fresh_there = record {
    image = made z h.right stamp;
    at = ap images' s.own_fresh ∙ change.at_fresh;
    of = right_of;
    low = s.parted.low_right;
    high = s.parted.high_right ∙ ap (λ (m : Image). high_of m.body) (sym place_is) ∙ place_there.high;
    below = ap (λ n. n + 1) s.parted.level_right ∙ s.level ∙ sym s.new_level;
  }

  new_children : Children images' (level_of new) (children new)
  new_children =
      let T : Place → Type 0 = IsThere images table (level_of j.body) in
      let first = all_map (λ pl. (is_below pl.high h.separator ≡ false) × T pl) (IsThere images' table (level_of new)) before
      (λ pl t. subst (λ n. IsThere images' table n pl) (sym s.new_level) (sibling_stays (level_of j.body) pl refl (inl t.0) t.1))
      (all_both (λ pl. is_below pl.high h.separator ≡ false) T before s.ended (all_front T before (place ∷ after) parent_children)) in
      let last = all_map (λ pl. (is_from pl.low h.separator ≡ false) × T pl) (IsThere images' table (level_of new)) after
      (λ pl t. subst (λ n. IsThere images' table n pl) (sym s.new_level) (sibling_stays (level_of j.body) pl refl (inr t.0) t.1))
      (all_both (λ pl. is_from pl.low h.separator ≡ false) T after s.begun (all_back T before (place ∷ after) parent_children).1) in
      subst (λ (ps : List Place). Children images' (level_of new) ps) (sym s.become)
      (all_join (IsThere images' table (level_of new)) before (cut_place ∷ fresh_place ∷ after) first (cut_there, (fresh_there, last)))

  -- the children of any other page
  parent_holds : may_hold j.body h.separator ≡ true
  parent_holds =
      let in_parent = all_back (IsInside (low_of j.body) (high_of j.body)) before (place ∷ after) (subst (λ (ps : List Place). AllByRecursion (IsInside (low_of j.body) (high_of j.body)) ps) s.were (children_inside j.body (s.tiles.sound q j s.parent).parts)) in
      let lo : low_of i.body ≡ place.low = ap (λ (m : Image). low_of m.body) (sym place_is) ∙ place_there.low in
      let hi : high_of i.body ≡ place.high = ap (λ (m : Image). high_of m.body) (sym place_is) ∙ place_there.high in
      in_parent.0 h.separator (ap (λ o. is_within o place.high h.separator) (sym lo) ∙ ap (λ o. is_within (low_of i.body) o h.separator) (sym hi) ∙ holds_separator)

  adopts : (x : ℕ) (k : Image) → Has images table x k → (pl : Place) → IsInside (low_of k.body) (high_of k.body) pl → IsThere images table (level_of k.body) pl → pl.page.0 ≡ p → x ≡ q
  adopts x k has pl inside t e =
      let same = is_page pl.page.0 t.image (record { held = t.at; of = t.of }) e in
      let lo : pl.low ≡ low_of i.body = sym t.low ∙ ap (λ (m : Image). low_of m.body) same in
      let hi : pl.high ≡ high_of i.body = sym t.high ∙ ap (λ (m : Image). high_of m.body) same in
      let lev : level_of k.body ≡ level_of j.body = sym t.below ∙ ap (λ (m : Image). level_of m.body + 1) same ∙ s.level in
      let k_holds = inside h.separator (ap (λ o. is_within o pl.high h.separator) lo ∙ ap (λ o. is_within (low_of i.body) o h.separator) hi ∙ holds_separator) in
      s.tiles.apart x q k j h.separator has s.parent lev k_holds parent_holds

  other_child : (x : ℕ) (k : Image) → Has images table x k → x ≢ q → (pl : Place) → IsInside (low_of k.body) (high_of k.body) pl × IsThere images table (level_of k.body) pl → IsThere images' table (level_of k.body) pl
  other_child x k has nq pl t =
      elim (one_number pl.page.0 q) [
        | inl e ↦ parent_stays (level_of k.body) pl t.1 e
        | inr away ↦ elim (one_number pl.page.0 p) [ inl e ↦ absurd (nq (adopts x k has pl t.0 t.1 e)) | inr np ↦ stays (level_of k.body) pl t.1 np away ]
      ]

  old_has : (x : ℕ) (k : Image) → Has images' table x k → x ≢ p → x ≢ f → x ≢ q → Has images table x k
  old_has x k has a b c = record { held = sym (change.others x a b c) ∙ has.held; of = has.of }

  abbrev AllThere : Image → Type 0
  AllThere m = AllByRecursion (IsThere images' table (level_of m.body)) (children m.body)

  new_page : (x : ℕ) (k : Image) → Has images' table x k → x ≡ p → k ≡ made i h.left stamp
  new_page x k has e = one_image images' x p k (made i h.left stamp) e has.held change.at_page

  new_fresh : (x : ℕ) (k : Image) → Has images' table x k → x ≡ f → k ≡ made z h.right stamp
  new_fresh x k has e = one_image images' x f k (made z h.right stamp) e has.held change.at_fresh

  new_parent : (x : ℕ) (k : Image) → Has images' table x k → x ≡ q → k ≡ made j new stamp
  new_parent x k has e = one_image images' x q k (made j new stamp) e has.held change.at_parent

  all_there : (x : ℕ) (k : Image) → Has images' table x k → AllThere k
  all_there x k has =
      elim (which x p f q) [
        | ThePage e ↦ subst AllThere (sym (new_page x k has e)) left_children
        | TheFresh e ↦ subst AllThere (sym (new_fresh x k has e)) right_children
        | TheParent e ↦ subst AllThere (sym (new_parent x k has e)) new_children
        | Another a b c ↦ (let old = old_has x k has a b c in
            all_map (λ pl. IsInside (low_of k.body) (high_of k.body) pl × IsThere images table (level_of k.body) pl) (IsThere images' table (level_of k.body)) (children k.body) (other_child x k old c)
            (all_both (IsInside (low_of k.body) (high_of k.body)) (IsThere images table (level_of k.body)) (children k.body) (children_inside k.body (s.tiles.sound x k old).parts) (old_children x k old)))
      ]

  hold_left : (key : List ℕ) → may_hold h.left key ≡ true → is_within (low_of i.body) (Some h.separator) key ≡ true
  hold_left key m = ap (λ o. is_within o (Some h.separator) key) (sym s.parted.low_left) ∙ ap (λ o. is_within (low_of h.left) o key) (sym s.parted.high_left) ∙ m

  hold_right : (key : List ℕ) → may_hold h.right key ≡ true → is_within (Some h.separator) (high_of i.body) key ≡ true
  hold_right key m = ap (λ o. is_within o (high_of i.body) key) (sym s.parted.low_right) ∙ ap (λ o. is_within (low_of h.right) o key) (sym s.parted.high_right) ∙ m

  hold_parent : (key : List ℕ) → may_hold new key ≡ true → may_hold j.body key ≡ true
  hold_parent key m = ap (λ o. is_within o (high_of j.body) key) (sym s.new_low) ∙ ap (λ o. is_within (low_of new) o key) (sym s.new_high) ∙ m

  abbrev Old : ℕ → Image → Type 0
  Old x k = OldOf images table p f x k

  old_of : (x : ℕ) (k : Image) → Has images' table x k → OldOf images table p f x k
  old_of x k has =
      elim (which x p f q) [
        | ThePage e ↦ subst (Old x) (sym (new_page x k has e)) (record { y = p; o = i; has = s.page; level = s.parted.level_left; holds = λ key m. left_holds (low_of i.body) (high_of i.body) h.separator key s.parted.inside (hold_left key m); at = inl e })
        | TheFresh e ↦ subst (Old x) (sym (new_fresh x k has e)) (record { y = p; o = i; has = s.page; level = s.parted.level_right; holds = λ key m. right_holds (low_of i.body) (high_of i.body) h.separator key s.parted.inside (hold_right key m); at = inr (e, refl) })
        | TheParent e ↦ subst (Old x) (sym (new_parent x k has e)) (record { y = q; o = j; has = s.parent; level = s.new_level; holds = hold_parent; at = inl e })
        | Another a b c ↦ record { y = x; o = k; has = old_has x k has a b c; level = refl; holds = λ key m. m; at = inl refl }
      ]

  torn : (x y : ℕ) (k m : Image) (key : List ℕ) → Has images' table x k → Has images' table y m → x ≡ p → y ≡ f → may_hold k.body key ≡ true → may_hold m.body key ≡ true → ⊥
  torn x y k m key hk hm e g ok om =
      halves_apart (low_of i.body) (high_of i.body) h.separator key
      (hold_left key (subst (λ (n : Image). may_hold n.body key ≡ true) (new_page x k hk e) ok))
      (hold_right key (subst (λ (n : Image). may_hold n.body key ≡ true) (new_fresh y m hm g) om))

  new_apart : AreApart images' table
  new_apart x y k m key hk hm lev ok om =
      let a = old_of x k hk in
      let b = old_of y m hm in
      let same : a.y ≡ b.y = s.tiles.apart a.y b.y a.o b.o key a.has b.has (sym a.level ∙ lev ∙ b.level) (a.holds key ok) (b.holds key om) in
      elim a.at [
        | inl e ↦ elim b.at [ inl g ↦ e ∙ same ∙ sym g | inr g ↦ absurd (torn x y k m key hk hm (e ∙ same ∙ g.1) g.0 ok om) ]
        | inr e ↦ elim b.at [ inl g ↦ absurd (torn y x m k key hm hk (g ∙ sym same ∙ e.1) e.0 om ok) | inr g ↦ e.0 ∙ sym g.0 ]
      ]

  old_root : IsRoot images table
  old_root = root_from images table s.tiles.root

  root_not_page : table ≢ p
  root_not_page e =
      let same = is_page table old_root.image old_root.has e in
      let l = ap (λ (m : Image). level_of m.body) same in
      let t = s.tiles.top q j old_root.image s.parent old_root.has in
      let k = s.level in absurd (omega (arith, l, t, k))

  new_root : (r : IsRoot images' table) × (level_of r.image.body ≡ level_of old_root.image.body)
  new_root =
      elim (which table p f q) [
        | ThePage e ↦ absurd (root_not_page e)
        | TheFresh e ↦ absurd (not_fresh table old_root.image old_root.has e)
        | TheParent e ↦ (let same = is_parent table old_root.image old_root.has e in (
          record {
            image = made j new stamp;
            has = record { held = ap images' e ∙ change.at_parent; of = s.new_of };
            low = s.new_low ∙ ap (λ (m : Image). low_of m.body) (sym same) ∙ old_root.low;
            high = s.new_high ∙ ap (λ (m : Image). high_of m.body) (sym same) ∙ old_root.high;
          },
          s.new_level ∙ ap (λ (m : Image). level_of m.body) (sym same),
        ))
        | Another a b c ↦ (record { image = old_root.image; has = record { held = change.others table a b c ∙ old_root.has.held; of = old_root.has.of }; low = old_root.low; high = old_root.high }, refl)
      ]

  new_top : (x : ℕ) (k r : Image) → Has images' table x k → Has images' table table r → level_of k.body ≤ level_of r.body
  new_top x k r has hr =
      let o = old_of x k has in
      let t = s.tiles.top o.y o.o old_root.image o.has old_root.has in
      let e = ap (λ (m : Image). level_of m.body) (one_image images' table table r new_root.0.image refl hr.held new_root.0.has.held) in
      let l = o.level in let g = new_root.1 in omega (arith, t, e, l, g)

  new_sound : (x : ℕ) (k : Image) → Has images' table x k → IsSound k.body
  new_sound x k has =
      elim (which x p f q) [
        | ThePage e ↦ subst (λ (m : Image). IsSound m.body) (sym (new_page x k has e)) s.parted.sound_left
        | TheFresh e ↦ subst (λ (m : Image). IsSound m.body) (sym (new_fresh x k has e)) s.parted.sound_right
        | TheParent e ↦ subst (λ (m : Image). IsSound m.body) (sym (new_parent x k has e)) s.new_sound
        | Another a b c ↦ s.tiles.sound x k (old_has x k has a b c)
      ]

  new_own : (x : ℕ) (k : Image) → Has images' table x k → k.page.0 ≡ x
  new_own x k has =
      elim (which x p f q) [
        | ThePage e ↦ ap (λ (m : Image). m.page.0) (new_page x k has e) ∙ s.tiles.own p i s.page ∙ sym e
        | TheFresh e ↦ ap (λ (m : Image). m.page.0) (new_fresh x k has e) ∙ s.own_fresh ∙ sym e
        | TheParent e ↦ ap (λ (m : Image). m.page.0) (new_parent x k has e) ∙ s.tiles.own q j s.parent ∙ sym e
        | Another a b c ↦ s.tiles.own x k (old_has x k has a b c)
      ]

  pub split_tiles : Tiles images' table
  split_tiles = record {
    root = root_to images' table new_root.0;
    children = λ x k has. all_map (IsThere images' table (level_of k.body)) (λ pl. IsSome (one_below (level_of k.body) (there images' table pl))) (children k.body) (there_to images' table (level_of k.body)) (all_there x k has);
    top = new_top;
    apart = new_apart;
    sound = new_sound;
    own = new_own;
  }

  -- ---- the rows

  has_new_page : Has images' table p (made i h.left stamp)
  has_new_page = record { held = change.at_page; of = left_of }

  has_new_fresh : Has images' table f (made z h.right stamp)
  has_new_fresh = record { held = change.at_fresh; of = right_of }

  parent_level : 1 ≤ level_of j.body
  parent_level = let k = s.level in omega (arith, k)

  pub split_keeps_row : (row : Row) → HasRow images table row → HasRow images' table row
  split_keeps_row row r =
      elim (which r.page p f q) [
        | ThePage e ↦ (let same = is_page r.page r.image r.has e in
            let c = subst (λ (rs : List Row). Contains rs row) (ap (λ (m : Image). rows_of m.body) same ∙ sym s.parted.rows) r.contains in
            elim (Contains-append_cases (rows_of h.left) (rows_of h.right) row c) [
              | inl d ↦ record { page = p; image = made i h.left stamp; has = has_new_page; contains = d }
              | inr d ↦ record { page = f; image = made z h.right stamp; has = has_new_fresh; contains = d }
            ])
        | TheFresh e ↦ absurd (not_fresh r.page r.image r.has e)
        | TheParent e ↦ absurd (contains_none j.body row parent_level (subst (λ (m : Image). Contains (rows_of m.body) row) (is_parent r.page r.image r.has e) r.contains))
        | Another a b c ↦ record { page = r.page; image = r.image; has = record { held = change.others r.page a b c ∙ r.has.held; of = r.has.of }; contains = r.contains }
      ]

  pub split_adds_no_row : (row : Row) → HasRow images' table row → HasRow images table row
  split_adds_no_row row r =
      elim (which r.page p f q) [
        | ThePage e ↦ (let c = subst (λ (m : Image). Contains (rows_of m.body) row) (new_page r.page r.image r.has e) r.contains in
            record { page = p; image = i; has = s.page; contains = subst (λ (rs : List Row). Contains rs row) s.parted.rows (Contains-append_left (rows_of h.left) (rows_of h.right) row c) })
        | TheFresh e ↦ (let c = subst (λ (m : Image). Contains (rows_of m.body) row) (new_fresh r.page r.image r.has e) r.contains in
            record { page = p; image = i; has = s.page; contains = subst (λ (rs : List Row). Contains rs row) s.parted.rows (Contains-append_right (rows_of h.left) (rows_of h.right) row c) })
        | TheParent e ↦ absurd (contains_none new row (subst (λ n. 1 ≤ n) (sym s.new_level) parent_level) (subst (λ (m : Image). Contains (rows_of m.body) row) (new_parent r.page r.image r.has e) r.contains))
        | Another a b c ↦ record { page = r.page; image = r.image; has = old_has r.page r.image r.has a b c; contains = r.contains }
      ]
