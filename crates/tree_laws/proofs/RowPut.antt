-- A row that is put into its leaf keeps the tiling, and changes no other row.
use Rattle.std.proofs.Common.{◌≡◌, ◌≢◌, ℕ, ◌+◌, ◌≤◌, true, List, Option, Some, refl, sym, ap, ◌∙◌, subst, arith, inl, inr}
use Rattle.std.specs.List.{AllByRecursion, Contains}
use Rattle.std.specs.Prelude.{IsSome}
use Rattle.tm_data.specs.declared.row.Row.{Row}
use Rattle.tm_data.specs.declared.image.Image.{Image}
use Rattle.tm_data.specs.declared.image.Body.{Body}
use Rattle.tm_data.specs.declared.image.Body.TheVariants.{Blank, Leaf, Inner}
use Rattle.tm_base.specs.Sizes.{size_with}
use Rattle.key_fences.specs.Fences.{is_within}
use Rattle.page_model.specs.Effects.{row_set}
use Rattle.page_model.specs.Tree.{Images, Place, level_of, low_of, high_of, is_of, may_hold, children, there, one_below}
use Rattle.page_model.specs.Sound.{IsSound, IsSoundRow, key_of}
use Rattle.page_model.specs.Tiling.{Has, Tiles, AreApart, HasRow, rows_of}
use Rattle.tree_laws.proofs.ListLemmas.{all_map, in_from, in_to}
use Rattle.tree_laws.proofs.SetLemmas.{all_set, ascend_set, set_is_in, set_keeps, set_adds_none, one_row, in_all}
use Rattle.tree_laws.proofs.ThereLemmas.{IsThere, there_from, there_to, IsRoot, root_from, root_to, one_image, one_number}
use Rattle.tree_laws.proofs.PageSplit.{made}

pub record PutFacts (images images' : Images) (table p stamp : ℕ) (k : Image) (low high : Option (List ℕ)) (rows : List Row) (row : Row) : Type 0 where
  pub tiles : Tiles images table
  pub leaf : Has images table p k
  pub body : k.body ≡ Leaf table low high rows
  pub within : is_within low high row.key ≡ true
  pub fits : size_with (Leaf table low high (row_set rows row)) ≤ 8192
  pub sound : IsSoundRow row
  pub new : images' p ≡ Some (made k (Leaf table low high (row_set rows row)) stamp)
  pub others : (x : ℕ) → x ≢ p → images' x ≡ images x

-- what a page was before
pub record Was (images : Images) (table x : ℕ) (m : Image) : Type 0 where
  pub o : Image
  pub has : Has images table x o
  pub page : m.page ≡ o.page
  pub level : level_of m.body ≡ level_of o.body
  pub low : low_of m.body ≡ low_of o.body
  pub high : high_of m.body ≡ high_of o.body
  pub children : children m.body ≡ children o.body

pub leaf_level : (b : Body) (row : Row) → Contains (rows_of b) row → level_of b ≡ 0
leaf_level Blank row c = refl
leaf_level (Leaf table low high rows) row c = refl
leaf_level (Inner table level low high first entries) row c = let lt = c.1 in absurd (omega (arith, lt))

pub row_within : (b : Body) (row : Row) → IsSound b → Contains (rows_of b) row → may_hold b row.key ≡ true
row_within Blank row ok c = let lt = c.1 in absurd (omega (arith, lt))
row_within (Leaf table low high rows) row ok c = in_all (λ (r : Row). is_within low high (key_of r) ≡ true) rows row ok.parts.1.within (in_from rows row c)
row_within (Inner table level low high first entries) row ok c = let lt = c.1 in absurd (omega (arith, lt))

module _ (images images' : Images) (table p stamp : ℕ) (k : Image) (low high : Option (List ℕ)) (rows : List Row) (row : Row)
    (s : PutFacts images images' table p stamp k low high rows row) where
  abbrev new_body : Body
  new_body = Leaf table low high (row_set rows row)

  leaf_of : is_of table new_body ≡ true
  leaf_of = ap (is_of table) (sym s.body) ∙ s.leaf.of

  leaf_sound : IsSound (Leaf table low high rows)
  leaf_sound = subst IsSound s.body (s.tiles.sound p k s.leaf)

  new_sound : IsSound new_body
  new_sound =
      let items = leaf_sound.parts.1 in
      record {
        parts = (
          leaf_sound.parts.0,
          record {
            ascend = ascend_set rows row items.ascend;
            within = all_set (λ r. is_within low high (key_of r) ≡ true) rows row items.within s.within;
            each = all_set IsSoundRow rows row items.each s.sound;
          },
        );
        size = s.fits;
      }

  new_page : (x : ℕ) (m : Image) → Has images' table x m → x ≡ p → m ≡ made k new_body stamp
  new_page x m has e = one_image images' x p m (made k new_body stamp) e has.held s.new

  was : (x : ℕ) (m : Image) → Has images' table x m → Was images table x m
  was x m has =
      elim (one_number x p) [
        | inl e ↦ (let P : Image → Type 0 = Was images table x in subst P (sym (new_page x m has e)) (record {
          o = k;
          has = record { held = ap images e ∙ s.leaf.held; of = s.leaf.of };
          page = refl;
          level = ap level_of (sym s.body);
          low = ap low_of (sym s.body);
          high = ap high_of (sym s.body);
          children = ap children (sym s.body);
        }))
        | inr away ↦ record { o = m; has = record { held = sym (s.others x away) ∙ has.held; of = has.of }; page = refl; level = refl; low = refl; high = refl; children = refl }
      ]

  stays : (level : ℕ) (pl : Place) → IsThere images table level pl → IsThere images' table level pl
  stays level pl t =
      elim (one_number pl.page.0 p) [
        | inl e ↦ (let same : t.image ≡ k = one_image images pl.page.0 p t.image k e t.at s.leaf.held in
            record {
              image = made k new_body stamp;
              at = ap images' e ∙ s.new;
              of = leaf_of;
              low = ap low_of (sym s.body) ∙ ap (λ (m : Image). low_of m.body) (sym same) ∙ t.low;
              high = ap high_of (sym s.body) ∙ ap (λ (m : Image). high_of m.body) (sym same) ∙ t.high;
              below = ap (λ (b : Body). level_of b + 1) (sym s.body) ∙ ap (λ (m : Image). level_of m.body + 1) (sym same) ∙ t.below;
            })
        | inr away ↦ record { image = t.image; at = s.others pl.page.0 away ∙ t.at; of = t.of; low = t.low; high = t.high; below = t.below }
      ]

  new_root : IsRoot images' table
  new_root =
      let r = root_from images table s.tiles.root in
      elim (one_number table p) [
        | inl e ↦ (let same : r.image ≡ k = one_image images table p r.image k e r.has.held s.leaf.held in
            record {
              image = made k new_body stamp;
              has = record { held = ap images' e ∙ s.new; of = leaf_of };
              low = ap low_of (sym s.body) ∙ ap (λ (m : Image). low_of m.body) (sym same) ∙ r.low;
              high = ap high_of (sym s.body) ∙ ap (λ (m : Image). high_of m.body) (sym same) ∙ r.high;
            })
        | inr away ↦ record { image = r.image; has = record { held = s.others table away ∙ r.has.held; of = r.has.of }; low = r.low; high = r.high }
      ]

  all_there : (x : ℕ) (m : Image) → Has images' table x m → AllByRecursion (λ pl. IsSome (one_below (level_of m.body) (there images' table pl))) (children m.body)
  all_there x m has =
      let w = was x m has in
      let n = level_of w.o.body in
      let old = s.tiles.children x w.o w.has in
      let new = all_map (λ pl. IsSome (one_below n (there images table pl))) (λ pl. IsSome (one_below n (there images' table pl))) (children w.o.body)
      (λ pl t. there_to images' table n pl (stays n pl (there_from images table n pl t))) old in
      let a = subst (λ (ps : List Place). AllByRecursion (λ pl. IsSome (one_below n (there images' table pl))) ps) (sym w.children) new in
      subst (λ l. AllByRecursion (λ pl. IsSome (one_below l (there images' table pl))) (children m.body)) (sym w.level) a

  new_top : (x : ℕ) (m r : Image) → Has images' table x m → Has images' table table r → level_of m.body ≤ level_of r.body
  new_top x m r has hr =
      let w = was x m has in let v = was table r hr in
      let t = s.tiles.top x w.o v.o w.has v.has in let a = w.level in let b = v.level in omega (arith, t, a, b)

  held_before : (x : ℕ) (m : Image) (w : Was images table x m) (key : List ℕ) → may_hold m.body key ≡ true → may_hold w.o.body key ≡ true
  held_before x m w key h = ap (λ o. is_within o (high_of w.o.body) key) (sym w.low) ∙ ap (λ o. is_within (low_of m.body) o key) (sym w.high) ∙ h

  new_apart : AreApart images' table
  new_apart x y m n key hm hn lev ok om =
      let w = was x m hm in let v = was y n hn in
      s.tiles.apart x y w.o v.o key w.has v.has (sym w.level ∙ lev ∙ v.level) (held_before x m w key ok) (held_before y n v key om)

  all_sound : (x : ℕ) (m : Image) → Has images' table x m → IsSound m.body
  all_sound x m has =
      elim (one_number x p) [
        | inl e ↦ subst (λ (n : Image). IsSound n.body) (sym (new_page x m has e)) new_sound
        | inr away ↦ s.tiles.sound x m (record { held = sym (s.others x away) ∙ has.held; of = has.of })
      ]

  new_own : (x : ℕ) (m : Image) → Has images' table x m → m.page.0 ≡ x
  new_own x m has = let w = was x m has in ap (λ q. q.0) w.page ∙ s.tiles.own x w.o w.has

  pub put_tiles : Tiles images' table
  put_tiles = record {
    root = root_to images' table new_root;
    children = all_there;
    top = new_top;
    apart = new_apart;
    sound = all_sound;
    own = new_own;
  }

  -- ---- the rows

  has_new : Has images' table p (made k new_body stamp)
  has_new = record { held = s.new; of = leaf_of }

  pub put_there : HasRow images' table row
  put_there = record { page = p; image = made k new_body stamp; has = has_new; contains = in_to (row_set rows row) row (set_is_in rows row) }

  pub put_keeps_row : (x : Row) → x.key ≢ row.key → HasRow images table x → HasRow images' table x
  put_keeps_row x differ r =
      elim (one_number r.page p) [
        | inl e ↦ (let same : r.image ≡ k = one_image images r.page p r.image k e r.has.held s.leaf.held in
            let c = subst (λ (b : Body). Contains (rows_of b) x) (ap (λ (m : Image). m.body) same ∙ s.body) r.contains in
            record { page = p; image = made k new_body stamp; has = has_new; contains = in_to (row_set rows row) x (set_keeps rows row x differ (in_from rows x c)) })
        | inr away ↦ record { page = r.page; image = r.image; has = record { held = s.others r.page away ∙ r.has.held; of = r.has.of }; contains = r.contains }
      ]

  pub put_adds_no_other : (x : Row) → x.key ≢ row.key → HasRow images' table x → HasRow images table x
  put_adds_no_other x differ r =
      elim (one_number r.page p) [
        | inl e ↦ (let c = subst (λ (m : Image). Contains (rows_of m.body) x) (new_page r.page r.image r.has e) r.contains in
            record { page = p; image = k; has = s.leaf; contains = subst (λ (b : Body). Contains (rows_of b) x) (sym s.body) (in_to rows x (set_adds_none rows row x differ (in_from (row_set rows row) x c))) })
        | inr away ↦ record { page = r.page; image = r.image; has = record { held = sym (s.others r.page away) ∙ r.has.held; of = r.has.of }; contains = r.contains }
      ]

  pub put_is_alone : (x : Row) → x.key ≡ row.key → HasRow images' table x → x ≡ row
  put_is_alone x same r =
      let ok = all_sound r.page r.image r.has in
      let zero_level = leaf_level r.image.body x r.contains in
      let here : r.page ≡ p = new_apart r.page p r.image (made k new_body stamp) row.key r.has has_new zero_level (subst (λ (key : List ℕ). may_hold r.image.body key ≡ true) same (row_within r.image.body x ok r.contains)) s.within in
      let c = subst (λ (m : Image). Contains (rows_of m.body) x) (new_page r.page r.image r.has here) r.contains in
      one_row (row_set rows row) x row (ascend_set rows row leaf_sound.parts.1.ascend) (in_from (row_set rows row) x c) (set_is_in rows row) same
