-- A root that splits keeps the tiling.
use Rattle.std.proofs.Common.{◌≡◌, ◌≢◌, ℕ, ◌+◌, ◌≤◌, true, List, [], ◌∷◌, ◌++◌, Some, None, refl, sym, ap, ◌∙◌, subst, arith, inl, inr}
use Rattle.std.specs.List.{AllByRecursion, Contains}
use Rattle.std.specs.Prelude.{IsSome}
use Rattle.std.proofs.lemmas.List.Elements.{Contains-append_left, Contains-append_right, Contains-append_cases}
use Rattle.tm_data.specs.declared.row.Row.{Row}
use Rattle.tm_data.specs.declared.image.Image.{Image}
use Rattle.tm_data.specs.declared.image.Body.{Body}
use Rattle.tm_data.specs.declared.image.Body.TheVariants.{Blank}
use Rattle.key_fences.specs.Fences.{is_within}
use Rattle.page_model.specs.Tree.{Images, Place, level_of, low_of, high_of, is_of, may_hold, children, there, one_below}
use Rattle.page_model.specs.Sound.{IsSound}
use Rattle.page_model.specs.Splits.{Halves}
use Rattle.page_model.specs.Tiling.{Has, Tiles, AreHalves, AreApart, HasRow, rows_of}
use Rattle.tree_laws.proofs.ListLemmas.{all_front, all_back, all_map}
use Rattle.tree_laws.proofs.FenceLemmas.{halves_apart}
use Rattle.tree_laws.proofs.ThereLemmas.{IsThere, there_from, there_to, IsRoot, root_to, of_is, one_image, blank_not_of}
use Rattle.tree_laws.proofs.PageSplit.{made, Changed, Which, ThePage, TheFresh, TheParent, Another, which, contains_none}

-- The facts of a root's split: i is the root's image, zl and zr the blank ones of the pages l and r.
pub record RootFacts (images : Images) (table l r : ℕ) (i zl zr : Image) (h : Halves) (new : Body) : Type 0 where
  pub tiles : Tiles images table
  pub page : Has images table table i
  pub low : low_of i.body ≡ None
  pub high : high_of i.body ≡ None
  pub fresh_left : images l ≡ Some zl
  pub blank_left : zl.body ≡ Blank
  pub own_left : zl.page.0 ≡ l
  pub fresh_right : images r ≡ Some zr
  pub blank_right : zr.body ≡ Blank
  pub own_right : zr.page.0 ≡ r
  pub parted : AreHalves i.body h
  pub become : children new ≡ (record { page = zl.page; low = None; high = Some h.separator }) ∷ (record { page = zr.page; low = Some h.separator; high = None }) ∷ []
  pub new_of : is_of table new ≡ true
  pub new_level : level_of new ≡ level_of i.body + 1
  pub new_low : low_of new ≡ None
  pub new_high : high_of new ≡ None
  pub new_sound : IsSound new

module _ (images images' : Images) (table l r stamp : ℕ) (i zl zr : Image) (h : Halves) (new : Body)
    (s : RootFacts images table l r i zl zr h new) (change : Changed images images' l r table (made zl h.left stamp) (made zr h.right stamp) (made i new stamp)) where
  left_of : is_of table h.left ≡ true
  left_of = subst (λ t. is_of t h.left ≡ true) (of_is table i.body s.page.of) s.parted.table_left

  right_of : is_of table h.right ≡ true
  right_of = subst (λ t. is_of t h.right ≡ true) (of_is table i.body s.page.of) s.parted.table_right

  not_left : (x : ℕ) (k : Image) → Has images table x k → x ≢ l
  not_left x k has e = let same = one_image images x l k zl e has.held s.fresh_left in blank_not_of table k (ap (λ (m : Image). m.body) same ∙ s.blank_left) has.of

  not_right : (x : ℕ) (k : Image) → Has images table x k → x ≢ r
  not_right x k has e = let same = one_image images x r k zr e has.held s.fresh_right in blank_not_of table k (ap (λ (m : Image). m.body) same ∙ s.blank_right) has.of

  is_root : (x : ℕ) (k : Image) → Has images table x k → x ≡ table → k ≡ i
  is_root x k has e = one_image images x table k i e has.held s.page.held

  -- what is below a page that isn't above the root isn't the root
  pub stays : (level : ℕ) (pl : Place) → level ≤ level_of i.body → IsThere images table level pl → IsThere images' table level pl
  stays level pl le t =
      let has : Has images table pl.page.0 t.image = record { held = t.at; of = t.of } in
      let nr : pl.page.0 ≢ table = λ e. let g = ap (λ (m : Image). level_of m.body) (is_root pl.page.0 t.image has e) in let b = t.below in absurd (omega (arith, g, le, b)) in
      record { image = t.image; at = change.others pl.page.0 (not_left pl.page.0 t.image has) (not_right pl.page.0 t.image has) nr ∙ t.at; of = t.of; low = t.low; high = t.high; below = t.below }

  pub stays_same : (level : ℕ) (pl : Place) (le : level ≤ level_of i.body) (t : IsThere images table level pl) → (stays level pl le t).image ≡ t.image
  unfolding stays
  stays_same level pl le t = refl

  abbrev Children : Images → ℕ → List Place → Type 0
  Children set level places = AllByRecursion (IsThere set table level) places

  old_children : (x : ℕ) (k : Image) → Has images table x k → Children images (level_of k.body) (children k.body)
  old_children x k has =
      all_map (λ pl. IsSome (one_below (level_of k.body) (there images table pl))) (IsThere images table (level_of k.body)) (children k.body)
      (there_from images table (level_of k.body)) (s.tiles.children x k has)

  page_children : Children images (level_of i.body) (children h.left ++ children h.right)
  page_children = subst (λ (ps : List Place). Children images (level_of i.body) ps) (sym s.parted.children) (old_children table i s.page)

  left_children : Children images' (level_of h.left) (children h.left)
  left_children =
      all_map (IsThere images table (level_of i.body)) (IsThere images' table (level_of h.left)) (children h.left)
      (λ pl t. subst (λ n. IsThere images' table n pl) (sym s.parted.level_left) (stays (level_of i.body) pl (omega arith) t))
      (all_front (IsThere images table (level_of i.body)) (children h.left) (children h.right) page_children)

  right_children : Children images' (level_of h.right) (children h.right)
  right_children =
      all_map (IsThere images table (level_of i.body)) (IsThere images' table (level_of h.right)) (children h.right)
      (λ pl t. subst (λ n. IsThere images' table n pl) (sym s.parted.level_right) (stays (level_of i.body) pl (omega arith) t))
      (all_back (IsThere images table (level_of i.body)) (children h.left) (children h.right) page_children)

  abbrev left_place : Place
  left_place = record { page = zl.page; low = None; high = Some h.separator }

  abbrev right_place : Place
  right_place = record { page = zr.page; low = Some h.separator; high = None }

  left_there : IsThere images' table (level_of new) left_place
  left_there = record {
    image = made zl h.left stamp;
    at = ap images' s.own_left ∙ change.at_page;
    of = left_of;
    low = s.parted.low_left ∙ s.low;
    high = s.parted.high_left;
    below = ap (λ n. n + 1) s.parted.level_left ∙ sym s.new_level;
  }

  right_there : IsThere images' table (level_of new) right_place
  right_there = record {
    image = made zr h.right stamp;
    at = ap images' s.own_right ∙ change.at_fresh;
    of = right_of;
    low = s.parted.low_right;
    high = s.parted.high_right ∙ s.high;
    below = ap (λ n. n + 1) s.parted.level_right ∙ sym s.new_level;
  }

  new_children : Children images' (level_of new) (children new)
  new_children = subst (λ (ps : List Place). Children images' (level_of new) ps) (sym s.become) (left_there, (right_there, tt))

  old_has : (x : ℕ) (k : Image) → Has images' table x k → x ≢ l → x ≢ r → x ≢ table → Has images table x k
  old_has x k has a b c = record { held = sym (change.others x a b c) ∙ has.held; of = has.of }

  new_left : (x : ℕ) (k : Image) → Has images' table x k → x ≡ l → k ≡ made zl h.left stamp
  new_left x k has e = one_image images' x l k (made zl h.left stamp) e has.held change.at_page

  new_right : (x : ℕ) (k : Image) → Has images' table x k → x ≡ r → k ≡ made zr h.right stamp
  new_right x k has e = one_image images' x r k (made zr h.right stamp) e has.held change.at_fresh

  new_over : (x : ℕ) (k : Image) → Has images' table x k → x ≡ table → k ≡ made i new stamp
  new_over x k has e = one_image images' x table k (made i new stamp) e has.held change.at_parent

  abbrev AllThere : Image → Type 0
  AllThere m = AllByRecursion (IsThere images' table (level_of m.body)) (children m.body)

  all_there : (x : ℕ) (k : Image) → Has images' table x k → AllThere k
  all_there x k has =
      elim (which x l r table) [
        | ThePage e ↦ subst AllThere (sym (new_left x k has e)) left_children
        | TheFresh e ↦ subst AllThere (sym (new_right x k has e)) right_children
        | TheParent e ↦ subst AllThere (sym (new_over x k has e)) new_children
        | Another a b c ↦ (let old = old_has x k has a b c in
            all_map (IsThere images table (level_of k.body)) (IsThere images' table (level_of k.body)) (children k.body)
            (λ pl t. stays (level_of k.body) pl (s.tiles.top x k i old s.page) t) (old_children x k old))
      ]

  hold_left : (key : List ℕ) → may_hold h.left key ≡ true → is_within (low_of i.body) (Some h.separator) key ≡ true
  hold_left key m = ap (λ o. is_within o (Some h.separator) key) (sym s.parted.low_left) ∙ ap (λ o. is_within (low_of h.left) o key) (sym s.parted.high_left) ∙ m

  hold_right : (key : List ℕ) → may_hold h.right key ≡ true → is_within (Some h.separator) (high_of i.body) key ≡ true
  hold_right key m = ap (λ o. is_within o (high_of i.body) key) (sym s.parted.low_right) ∙ ap (λ o. is_within (low_of h.right) o key) (sym s.parted.high_right) ∙ m

  -- the root's fences hold every key
  root_holds : (key : List ℕ) → may_hold i.body key ≡ true
  root_holds key = ap (λ o. is_within o (high_of i.body) key) s.low ∙ ap (λ o. is_within None o key) s.high

  torn : (x y : ℕ) (k m : Image) (key : List ℕ) → Has images' table x k → Has images' table y m → x ≡ l → y ≡ r → may_hold k.body key ≡ true → may_hold m.body key ≡ true → ⊥
  torn x y k m key hk hm e g ok om =
      halves_apart (low_of i.body) (high_of i.body) h.separator key
      (hold_left key (subst (λ (n : Image). may_hold n.body key ≡ true) (new_left x k hk e) ok))
      (hold_right key (subst (λ (n : Image). may_hold n.body key ≡ true) (new_right y m hm g) om))

  -- an old page of the old root's level would be the root
  alone : (y : ℕ) (m : Image) (key : List ℕ) → Has images table y m → y ≢ table → level_of m.body ≡ level_of i.body → may_hold m.body key ≡ true → ⊥
  alone y m key has away lev om = away (s.tiles.apart y table m i key has s.page lev om (root_holds key))

  -- no old page is as high as the new root
  too_high : (y : ℕ) (m : Image) → Has images table y m → level_of m.body ≡ level_of new → ⊥
  too_high y m has lev = let t = s.tiles.top y m i has s.page in let n = s.new_level in omega (arith, t, n, lev)

  -- the level of each new page
  left_level : (x : ℕ) (k : Image) → Has images' table x k → x ≡ l → level_of k.body ≡ level_of i.body
  left_level x k has e = ap (λ (m : Image). level_of m.body) (new_left x k has e) ∙ s.parted.level_left

  right_level : (x : ℕ) (k : Image) → Has images' table x k → x ≡ r → level_of k.body ≡ level_of i.body
  right_level x k has e = ap (λ (m : Image). level_of m.body) (new_right x k has e) ∙ s.parted.level_right

  over_level : (x : ℕ) (k : Image) → Has images' table x k → x ≡ table → level_of k.body ≡ level_of i.body + 1
  over_level x k has e = ap (λ (m : Image). level_of m.body) (new_over x k has e) ∙ s.new_level

  uneven : (a b n : ℕ) → a ≡ b → a ≡ n → b ≡ n + 1 → ⊥
  uneven a b n e f g = omega arith

  other_apart : (x y : ℕ) (k m : Image) (key : List ℕ) → Has images' table x k → Has images table y m → y ≢ table → Which x l r table → level_of k.body ≡ level_of m.body → may_hold k.body key ≡ true → may_hold m.body key ≡ true → x ≡ y
  other_apart x y k m key hk hm away w lev ok om =
      elim w [
        | ThePage e ↦ absurd (alone y m key hm away (sym lev ∙ left_level x k hk e) om)
        | TheFresh e ↦ absurd (alone y m key hm away (sym lev ∙ right_level x k hk e) om)
        | TheParent e ↦ absurd (too_high y m hm (sym lev ∙ over_level x k hk e ∙ sym s.new_level))
        | Another a b c ↦ s.tiles.apart x y k m key (old_has x k hk a b c) hm lev ok om
      ]

  new_apart : AreApart images' table
  new_apart x y k m key hk hm lev ok om =
      elim (which y l r table) [
        | ThePage g ↦ elim (which x l r table) [
          | ThePage e ↦ e ∙ sym g
          | TheFresh e ↦ absurd (torn y x m k key hm hk g e om ok)
          | TheParent e ↦ absurd (uneven (level_of m.body) (level_of k.body) (level_of i.body) (sym lev) (left_level y m hm g) (over_level x k hk e))
          | Another a b c ↦ absurd (alone x k key (old_has x k hk a b c) c (lev ∙ left_level y m hm g) ok)
        ]
        | TheFresh g ↦ elim (which x l r table) [
          | ThePage e ↦ absurd (torn x y k m key hk hm e g ok om)
          | TheFresh e ↦ e ∙ sym g
          | TheParent e ↦ absurd (uneven (level_of m.body) (level_of k.body) (level_of i.body) (sym lev) (right_level y m hm g) (over_level x k hk e))
          | Another a b c ↦ absurd (alone x k key (old_has x k hk a b c) c (lev ∙ right_level y m hm g) ok)
        ]
        | TheParent g ↦ elim (which x l r table) [
          | ThePage e ↦ absurd (uneven (level_of k.body) (level_of m.body) (level_of i.body) lev (left_level x k hk e) (over_level y m hm g))
          | TheFresh e ↦ absurd (uneven (level_of k.body) (level_of m.body) (level_of i.body) lev (right_level x k hk e) (over_level y m hm g))
          | TheParent e ↦ e ∙ sym g
          | Another a b c ↦ absurd (too_high x k (old_has x k hk a b c) (lev ∙ over_level y m hm g ∙ sym s.new_level))
        ]
        | Another a b c ↦ other_apart x y k m key hk (old_has y m hm a b c) c (which x l r table) lev ok om
      ]

  new_root : IsRoot images' table
  new_root = record { image = made i new stamp; has = record { held = change.at_parent; of = s.new_of }; low = s.new_low; high = s.new_high }

  new_top : (x : ℕ) (k r' : Image) → Has images' table x k → Has images' table table r' → level_of k.body ≤ level_of r'.body
  new_top x k r' has hr =
      let o = over_level table r' hr refl in
      elim (which x l r table) [
        | ThePage e ↦ (let g = left_level x k has e in omega (arith, o, g))
        | TheFresh e ↦ (let g = right_level x k has e in omega (arith, o, g))
        | TheParent e ↦ (let g = over_level x k has e in omega (arith, o, g))
        | Another a b c ↦ (let g = s.tiles.top x k i (old_has x k has a b c) s.page in omega (arith, o, g))
      ]

  new_is_sound : (x : ℕ) (k : Image) → Has images' table x k → IsSound k.body
  new_is_sound x k has =
      elim (which x l r table) [
        | ThePage e ↦ subst (λ (m : Image). IsSound m.body) (sym (new_left x k has e)) s.parted.sound_left
        | TheFresh e ↦ subst (λ (m : Image). IsSound m.body) (sym (new_right x k has e)) s.parted.sound_right
        | TheParent e ↦ subst (λ (m : Image). IsSound m.body) (sym (new_over x k has e)) s.new_sound
        | Another a b c ↦ s.tiles.sound x k (old_has x k has a b c)
      ]

  new_own : (x : ℕ) (k : Image) → Has images' table x k → k.page.0 ≡ x
  new_own x k has =
      elim (which x l r table) [
        | ThePage e ↦ ap (λ (m : Image). m.page.0) (new_left x k has e) ∙ s.own_left ∙ sym e
        | TheFresh e ↦ ap (λ (m : Image). m.page.0) (new_right x k has e) ∙ s.own_right ∙ sym e
        | TheParent e ↦ ap (λ (m : Image). m.page.0) (new_over x k has e) ∙ s.tiles.own table i s.page ∙ sym e
        | Another a b c ↦ s.tiles.own x k (old_has x k has a b c)
      ]

  pub root_tiles : Tiles images' table
  root_tiles = record {
    root = root_to images' table new_root;
    children = λ x k has. all_map (IsThere images' table (level_of k.body)) (λ pl. IsSome (one_below (level_of k.body) (there images' table pl))) (children k.body) (there_to images' table (level_of k.body)) (all_there x k has);
    top = new_top;
    apart = new_apart;
    sound = new_is_sound;
    own = new_own;
  }

  -- ---- the rows

  pub root_keeps_row : (row : Row) → HasRow images table row → HasRow images' table row
  root_keeps_row row g =
      elim (which g.page l r table) [
        | ThePage e ↦ absurd (not_left g.page g.image g.has e)
        | TheFresh e ↦ absurd (not_right g.page g.image g.has e)
        | TheParent e ↦ (let same = is_root g.page g.image g.has e in
            let c = subst (λ (rs : List Row). Contains rs row) (ap (λ (m : Image). rows_of m.body) same ∙ sym s.parted.rows) g.contains in
            elim (Contains-append_cases (rows_of h.left) (rows_of h.right) row c) [
              | inl d ↦ record { page = l; image = made zl h.left stamp; has = record { held = change.at_page; of = left_of }; contains = d }
              | inr d ↦ record { page = r; image = made zr h.right stamp; has = record { held = change.at_fresh; of = right_of }; contains = d }
            ])
        | Another a b c ↦ record { page = g.page; image = g.image; has = record { held = change.others g.page a b c ∙ g.has.held; of = g.has.of }; contains = g.contains }
      ]

  pub root_adds_no_row : (row : Row) → HasRow images' table row → HasRow images table row
  root_adds_no_row row g =
      elim (which g.page l r table) [
        | ThePage e ↦ (let c = subst (λ (m : Image). Contains (rows_of m.body) row) (new_left g.page g.image g.has e) g.contains in
            record { page = table; image = i; has = s.page; contains = subst (λ (rs : List Row). Contains rs row) s.parted.rows (Contains-append_left (rows_of h.left) (rows_of h.right) row c) })
        | TheFresh e ↦ (let c = subst (λ (m : Image). Contains (rows_of m.body) row) (new_right g.page g.image g.has e) g.contains in
            record { page = table; image = i; has = s.page; contains = subst (λ (rs : List Row). Contains rs row) s.parted.rows (Contains-append_right (rows_of h.left) (rows_of h.right) row c) })
        | TheParent e ↦ (let n = s.new_level in absurd (contains_none new row (omega (arith, n)) (subst (λ (m : Image). Contains (rows_of m.body) row) (new_over g.page g.image g.has e) g.contains)))
        | Another a b c ↦ record { page = g.page; image = g.image; has = old_has g.page g.image g.has a b c; contains = g.contains }
      ]
