-- A tiled table is a finite map: its rows are collected down the tree, and put into a map one by one.
use Rattle.std.proofs.Common.{◌≡◌, ℕ, zero, suc, true, List, [], ◌∷◌, ◌++◌, Option, Some, None, refl, sym, ap, ◌∙◌, subst, arith, inl, inr}
use Rattle.std.specs.List.{AllByRecursion, Contains}
use Rattle.std.specs.Ordering.{nat_cmp}
use Rattle.std.specs.Cmp.Lexicographic.{slice_cmp}
use Rattle.std.specs.FinMap.{FinMap, get, insert, empty, get-empty}
use Rattle.tm_data.specs.declared.row.Row.{Row}
use Rattle.tm_data.specs.declared.image.Image.{Image}
use Rattle.tm_data.specs.declared.image.Body.{Body}
use Rattle.tm_data.specs.declared.image.Body.TheVariants.{Blank, Leaf, Inner}
use Rattle.key_fences.specs.Fences.{is_within}
use Rattle.page_model.specs.Tree.{Images, Place, level_of, high_of, is_of, may_hold, children, child_for, there, one_below}
use Rattle.page_model.specs.Sound.{IsSound}
use Rattle.page_model.specs.Tiling.{Has, Tiles, HasRow, IsMap, rows_of}
use Rattle.tree_laws.proofs.ListLemmas.{IsIn, all_map, all_back, in_from, in_to, in_front, in_back}
use Rattle.tree_laws.proofs.SetLemmas.{one_row}
use Rattle.tree_laws.proofs.PlaceLemmas.{focus, child_holds}
use Rattle.tree_laws.proofs.ThereLemmas.{IsThere, there_is, IsRoot, root_from, one_image}
use Rattle.tree_laws.proofs.RowPut.{leaf_level, row_within}
use Rattle.tree_laws.proofs.WayLemmas.{all_there}
use Rattle.tree_laws.proofs.MapLemmas.{one_key_or, get_same, get_other}

-- ---- the rows below the places of a list

-- of what is at a place
abbrev opened : Option Body → (Body → List Row) → List Row
opened None rows = []
opened (Some body) rows = rows body

-- of what is at each place, in turn
abbrev collected : (Place → List Row) → List Place → List Row
collected rows [] = []
collected rows (p ∷ ps) = rows p ++ collected rows ps

collects : (rows : Place → List Row) (before : List Place) (place : Place) (after : List Place) (row : Row) → IsIn row (rows place) → IsIn row (collected rows (before ++ place ∷ after))
collects rows [] place after row h = in_front (rows place) (collected rows after) row h
collects rows (p ∷ ps) place after row h = in_back (rows p) (collected rows (ps ++ place ∷ after)) row (collects rows ps place after row h)

-- what holds of a row of each part holds of a row of the whole
of_joined : (xs ys : List Row) (row : Row) (P : Type 0) → (IsIn row xs → P) → (IsIn row ys → P) → IsIn row (xs ++ ys) → P
of_joined [] ys row P f g h = g h
of_joined (x ∷ xs) ys row P f g h = elim h [ inl e ↦ f (inl e) | inr k ↦ of_joined xs ys row P (λ i. f (inr i)) g k ]

of_collected : (rows : Place → List Row) (row : Row) (P : Type 0) (places : List Place) → AllByRecursion (λ p. IsIn row (rows p) → P) places → IsIn row (collected rows places) → P
of_collected rows row P [] all h = absurd h
of_collected rows row P (p ∷ ps) all h = of_joined (rows p) (collected rows ps) row P all.0 (of_collected rows row P ps all.1) h

-- ---- the rows of a tree

module _ (images : Images) (table : ℕ) where
  -- the rows of a page and of what is so many levels below it
  abbrev rows_under : ℕ → Body → List Row
  rows_under zero body = rows_of body
  rows_under (suc n) body = collected (λ place. opened (one_below (level_of body) (there images table place)) (rows_under n)) (children body)

module _ (images : Images) (table : ℕ) (tiles : Tiles images table) where
  -- a leaf that may have a row's key has the row
  leaf_has : (x : ℕ) (k : Image) (row : Row) → Has images table x k → level_of k.body ≡ 0 → may_hold k.body row.key ≡ true → HasRow images table row → IsIn row (rows_of k.body)
  leaf_has x k row has lev holds r =
      let within = row_within r.image.body row (tiles.sound r.page r.image r.has) r.contains in
      let one : r.page ≡ x = tiles.apart r.page x r.image k row.key r.has has (leaf_level r.image.body row r.contains ∙ sym lev) within holds in
      let same : r.image ≡ k = one_image images r.page x r.image k one r.has.held has.held in
      subst (λ (i : Image). IsIn row (rows_of i.body)) same (in_from (rows_of r.image.body) row r.contains)

  -- the row that a page below has is among those of the page
  under : (n : ℕ) (body : Body) (row : Row) (place : Place) (here : IsThere images table (level_of body) place) (before after : List Place) → children body ≡ before ++ place ∷ after
      → IsIn row (rows_under images table n here.image.body) → IsIn row (rows_under images table (suc n) body)
  under n body row place here before after is h =
      let rows : Place → List Row = λ p. opened (one_below (level_of body) (there images table p)) (rows_under images table n) in
      let mine : IsIn row (rows place) = subst (λ (o : Option Body). IsIn row (opened o (rows_under images table n))) (sym (there_is images table (level_of body) place here)) h in
      subst (λ (ps : List Place). IsIn row (collected rows ps)) (sym is) (collects rows before place after row mine)

  -- the rows under a page have each row of the table whose key the page may hold
  has_all : (n : ℕ) (x : ℕ) (k : Image) (body : Body) (row : Row) → Has images table x k → k.body ≡ body → is_of table body ≡ true → IsSound body → level_of body ≡ n → may_hold body row.key ≡ true
      → AllByRecursion (IsThere images table (level_of body)) (children body) → HasRow images table row → IsIn row (rows_under images table n body)
  has_all zero x k body row has e of ok lev holds below r =
      subst (λ (b : Body). IsIn row (rows_of b)) e (leaf_has x k row has (ap level_of e ∙ lev) (ap (λ (b : Body). may_hold b row.key) e ∙ holds) r)
  has_all (suc n) x k Blank row has e of ok lev holds below r = absurd (omega (arith, lev))
  has_all (suc n) x k (Leaf t low high rows) row has e of ok lev holds below r = absurd (omega (arith, lev))
  has_all (suc n) x k (Inner t level low high first entries) row has e of ok lev holds below r =
      let f = focus row.key t level low high first entries ok.parts.1.ascend in
      let place = child_for row.key low high first entries in
      let here = (all_back (IsThere images table level) f.before (place ∷ f.after) (subst (λ (ps : List Place). AllByRecursion (IsThere images table level) ps) f.is below)).0 in
      let has_here : Has images table place.page.0 here.image = record { held = here.at; of = here.of } in
      let lower : level_of here.image.body ≡ n = (let b = here.below in omega (arith, b, lev)) in
      let inside = child_holds row.key t level low high first entries ok.parts.1.ascend holds in
      let h : may_hold here.image.body row.key ≡ true = ap (λ o. is_within o (high_of here.image.body) row.key) here.low ∙ ap (λ o. is_within place.low o row.key) here.high ∙ inside in
      under n (Inner t level low high first entries) row place here f.before f.after f.is
      (has_all n place.page.0 here.image here.image.body row has_here refl here.of (tiles.sound place.page.0 here.image has_here) lower h (all_there images table row.key tiles place.page.0 here.image has_here) r)

  -- and no other row
  has_only : (n : ℕ) (x : ℕ) (k : Image) (row : Row) → Has images table x k → IsIn row (rows_under images table n k.body) → HasRow images table row
  has_only zero x k row has h = record { page = x; image = k; has = has; contains = in_to (rows_of k.body) row h }
  has_only (suc n) x k row has h =
      let rows : Place → List Row = λ p. opened (one_below (level_of k.body) (there images table p)) (rows_under images table n) in
      of_collected rows row (HasRow images table row) (children k.body)
      (all_map (IsThere images table (level_of k.body)) (λ p. IsIn row (rows p) → HasRow images table row) (children k.body)
      (λ p t i. has_only n p.page.0 t.image row (record { held = t.at; of = t.of })
      (subst (λ (o : Option Body). IsIn row (opened o (rows_under images table n))) (there_is images table (level_of k.body) p t) i)) (all_there images table row.key tiles x k has)) h

  -- a key has one row, in a page and in the table
  one_in_page : (b : Body) (x y : Row) → IsSound b → Contains (rows_of b) x → Contains (rows_of b) y → x.key ≡ y.key → x ≡ y
  one_in_page Blank x y ok c d e = let lt = c.1 in absurd (omega (arith, lt))
  one_in_page (Leaf t low high rows) x y ok c d e = one_row rows x y ok.parts.1.ascend (in_from rows x c) (in_from rows y d) e
  one_in_page (Inner t level low high first entries) x y ok c d e = let lt = c.1 in absurd (omega (arith, lt))

  one_of_key : (x y : Row) → HasRow images table x → HasRow images table y → x.key ≡ y.key → x ≡ y
  one_of_key x y h k e =
      let ok = tiles.sound k.page k.image k.has in
      let holds : may_hold k.image.body x.key ≡ true = ap (may_hold k.image.body) e ∙ row_within k.image.body y ok k.contains in
      let i = leaf_has k.page k.image x k.has (leaf_level k.image.body y k.contains) holds h in
      one_in_page k.image.body x y ok (in_to (rows_of k.image.body) x i) k.contains e

-- ---- the map of a list of rows

-- where a key stands twice, the first row
abbrev map_of : List Row → FinMap (slice_cmp nat_cmp) Row
map_of [] = empty
map_of (r ∷ rs) = insert (map_of rs) r.key r

map_only : (rows : List Row) (key : List ℕ) (row : Row) → get (map_of rows) key ≡ Some row → IsIn row rows × (row.key ≡ key)
map_only [] key row g = let n = get-empty {X = Row} (slice_cmp nat_cmp) key in absurd (cc (n, g))
map_only (r ∷ rs) key row g =
    elim (one_key_or key r.key) [
      | inl e ↦ (let h : Some r ≡ Some row = sym (get_same (map_of rs) r.key r) ∙ ap (get (insert (map_of rs) r.key r)) (sym e) ∙ g in let q : r ≡ row = cc in
          (inl (sym q), ap (λ (x : Row). x.key) (sym q) ∙ sym e))
      | inr d ↦ (let k = map_only rs key row (sym (get_other (map_of rs) r.key key r d) ∙ g) in (inr k.0, k.1))
    ]

-- no key stands twice
abbrev AreOne : List Row → Type 0
AreOne rows = (x y : Row) → IsIn x rows → IsIn y rows → x.key ≡ y.key → x ≡ y

map_all : (rows : List Row) (row : Row) → AreOne rows → IsIn row rows → get (map_of rows) row.key ≡ Some row
map_all [] row one h = absurd h
map_all (r ∷ rs) row one h =
    elim (one_key_or row.key r.key) [
      | inl e ↦ (let q : r ≡ row = sym (one row r h (inl refl) e) in
          ap (get (insert (map_of rs) r.key r)) e ∙ get_same (map_of rs) r.key r ∙ ap (λ (x : Row). Some x) q)
      | inr d ↦ elim h [
        | inl q ↦ absurd (d (ap (λ (x : Row). x.key) q))
        | inr k ↦ get_other (map_of rs) r.key row.key r d ∙ map_all rs row (λ x y i j. one x y (inr i) (inr j)) k
      ]
    ]

-- ---- the map of a table

module _ (images : Images) (table : ℕ) (tiles : Tiles images table) where
  abbrev top : IsRoot images table
  top = root_from images table tiles.root

  abbrev all_rows : List Row
  all_rows = rows_under images table (level_of top.image.body) top.image.body

  each_is_there : (row : Row) → IsIn row all_rows → HasRow images table row
  each_is_there row h = has_only images table tiles (level_of top.image.body) table top.image row top.has h

  all_are_here : (row : Row) → HasRow images table row → IsIn row all_rows
  all_are_here row r =
      let holds : may_hold top.image.body row.key ≡ true = ap (λ o. is_within o (high_of top.image.body) row.key) top.low ∙ ap (λ o. is_within None o row.key) top.high in
      has_all images table tiles (level_of top.image.body) table top.image top.image.body row top.has refl top.has.of (tiles.sound table top.image top.has) refl holds (all_there images table row.key tiles table top.image top.has) r

  pub table_map : (m : FinMap (slice_cmp nat_cmp) Row) × IsMap images table m
  table_map = (
    map_of all_rows,
    record {
      each = λ key row g. (let k = map_only all_rows key row g in (each_is_there row k.0, k.1));
      all = λ row r. map_all all_rows row (λ x y i j. one_of_key images table tiles x y (each_is_there x i) (each_is_there y j)) (all_are_here row r);
    },
  )
