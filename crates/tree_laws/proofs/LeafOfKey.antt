-- The path of a key ends at the one leaf that may hold it.
use Rattle.std.proofs.Common.{◌≡◌, ℕ, zero, suc, true, List, [], ◌∷◌, ◌++◌, None, Ok, refl, sym, ap, ◌∙◌, subst, arith}
use Rattle.std.specs.List.{Contains}
use Rattle.std.specs.Prelude.{IsSome}
use Rattle.tm_data.specs.declared.transaction.Page.{Page}
use Rattle.tm_data.specs.declared.row.Row.{Row}
use Rattle.tm_data.specs.declared.image.Image.{Image}
use Rattle.tm_data.specs.declared.image.Body.{Body}
use Rattle.tm_data.specs.declared.image.Body.TheVariants.{Blank, Leaf, Inner}
use Rattle.key_fences.specs.Fences.{is_within}
use Rattle.page_model.specs.Tree.{Images, level_of, high_of, may_hold, child_for, there, one_below, root, path_below, path_of}
use Rattle.page_model.specs.Sound.{IsSound}
use Rattle.page_model.specs.Tiling.{Has, Tiles, HasRow, rows_of}
use Rattle.tree_laws.specs.Claims.{LeadsToItsRow}
use Rattle.tree_laws.proofs.PlaceLemmas.{child_holds}
use Rattle.tree_laws.proofs.ThereLemmas.{there_from, there_is, root_from, root_is, one_image}
use Rattle.tree_laws.proofs.RowPut.{leaf_level, row_within}
use Rattle.tree_laws.proofs.PathFits.{page_by, on_by}

-- a path that ends at a leaf that may hold the key
record EndsAtLeaf (images : Images) (table : ℕ) (key : List ℕ) (path : List Page) : Type 0 where
  pub front : List Page
  pub page : Page
  pub leaf : Image
  pub ends : path ≡ front ++ page ∷ []
  pub has : Has images table page.0 leaf
  pub level : level_of leaf.body ≡ 0
  pub holds : may_hold leaf.body key ≡ true

module _ (images : Images) (table : ℕ) (key : List ℕ) (tiles : Tiles images table) where
  abbrev Ends : List Page → Type 0
  Ends path = EndsAtLeaf images table key path

  longer : (page : Page) (path : List Page) → Ends path → Ends (page ∷ path)
  longer page path e = record {
    front = page ∷ e.front;
    page = e.page;
    leaf = e.leaf;
    ends = ap (λ (ps : List Page). page ∷ ps) e.ends;
    has = e.has;
    level = e.level;
    holds = e.holds;
  }

  here_by : (page : Page) (k : Image) (pages : List Page) → [] ≡ pages → Has images table page.0 k → level_of k.body ≡ 0 → may_hold k.body key ≡ true → Ends (page ∷ pages)
  here_by page k pages e has level holds = record {
    front = [];
    page = page;
    leaf = k;
    ends = ap (λ (ps : List Page). page ∷ ps) (sym e);
    has = has;
    level = level;
    holds = holds;
  }

  ends_by : (n : ℕ) (page : Page) (k : Image) (body : Body) → k.body ≡ body → Has images table page.0 k → IsSound body → level_of body ≡ n → may_hold body key ≡ true
      → (pages : List Page) → path_below images table key n body ≡ Ok pages → Ends (page ∷ pages)
  ends_by zero page k Blank e has ok lev holds pages found = here_by page k pages (cc) has (ap level_of e) (ap (λ (b : Body). may_hold b key) e ∙ holds)
  ends_by zero page k (Leaf t low high rows) e has ok lev holds pages found = here_by page k pages (cc) has (ap level_of e) (ap (λ (b : Body). may_hold b key) e ∙ holds)
  ends_by zero page k (Inner t level low high first entries) e has ok lev holds pages found = cc
  ends_by (suc n) page k Blank e has ok lev holds pages found = absurd (omega (arith, lev))
  ends_by (suc n) page k (Leaf t low high rows) e has ok lev holds pages found = absurd (omega (arith, lev))
  ends_by (suc n) page k (Inner t level low high first entries) e has ok lev holds pages found =
      let place = child_for key low high first entries in
      let a = on_by place.page (one_below level (there images table place)) (path_below images table key n) pages found in
      let p = page_by place.page (path_below images table key n a.0) pages a.2 in
      let some : IsSome (one_below level (there images table place)) = subst (λ o. IsSome o) (sym a.1) refl in
      let here = there_from images table level place some in
      let same : here.image.body ≡ a.0 = (let z = there_is images table level place here in let y = a.1 in cc) in
      let below : Has images table place.page.0 here.image = record { held = here.at; of = here.of } in
      let inside = child_holds key t level low high first entries ok.parts.1.ascend holds in
      let h : may_hold here.image.body key ≡ true = ap (λ o. is_within o (high_of here.image.body) key) here.low ∙ ap (λ o. is_within place.low o key) here.high ∙ inside in
      let lower : level_of here.image.body ≡ n = (let b = here.below in omega (arith, b, lev)) in
      let rest = ends_by n place.page here.image here.image.body refl below (tiles.sound place.page.0 here.image below) lower h p.0 (ap (path_below images table key n) same ∙ p.1) in
      longer page pages (subst (λ (ps : List Page). Ends ps) (sym p.2) rest)

  ends : (path : List Page) → path_of images table key ≡ Ok path → Ends path
  ends path found =
      let r = root_from images table tiles.root in
      let a = on_by (root table).page (there images table (root table)) (λ body. path_below images table key (level_of body) body) path found in
      let p = page_by (root table).page (path_below images table key (level_of a.0) a.0) path a.2 in
      let same : r.image.body ≡ a.0 = (let z = root_is images table r in let y = a.1 in cc) in
      let holds : may_hold r.image.body key ≡ true = ap (λ o. is_within o (high_of r.image.body) key) r.low ∙ ap (λ o. is_within None o key) r.high in
      let rest = ends_by (level_of r.image.body) (root table).page r.image r.image.body refl r.has (tiles.sound table r.image r.has) refl holds p.0
      (ap (λ (b : Body). path_below images table key (level_of b) b) same ∙ p.1) in
      subst (λ (ps : List Page). Ends ps) (sym p.2) rest

  -- the one leaf that may hold the key
  one_leaf : (page : Page) (leaf : Image) → Has images table page.0 leaf → level_of leaf.body ≡ 0 → may_hold leaf.body key ≡ true
      → (q : ℕ) (j : Image) → Has images table q j → level_of j.body ≡ 0 → may_hold j.body key ≡ true → q ≡ page.0
  one_leaf page leaf has level holds q j other lev may = tiles.apart q page.0 j leaf key other has (lev ∙ sym level) may holds

  row_there : (page : Page) (leaf : Image) → Has images table page.0 leaf → level_of leaf.body ≡ 0 → may_hold leaf.body key ≡ true
      → (row : Row) → row.key ≡ key → HasRow images table row → Contains (rows_of leaf.body) row
  row_there page leaf has level holds row same r =
      let may = subst (λ (k : List ℕ). may_hold r.image.body k ≡ true) same (row_within r.image.body row (tiles.sound r.page r.image r.has) r.contains) in
      let at = one_leaf page leaf has level holds r.page r.image r.has (leaf_level r.image.body row r.contains) may in
      let one : r.image ≡ leaf = one_image images r.page page.0 r.image leaf at r.has.held has.held in
      subst (λ (i : Image). Contains (rows_of i.body) row) one r.contains

  pub leads : (path : List Page) → path_of images table key ≡ Ok path → LeadsToItsRow images table key path
  leads path found =
      let e = ends path found in
      record {
        front = e.front;
        page = e.page;
        leaf = e.leaf;
        ends = e.ends;
        has = e.has;
        level = e.level;
        holds = e.holds;
        rows = λ row same. (row_there e.page e.leaf e.has e.level e.holds row same, λ c. record { page = e.page.0; image = e.leaf; has = e.has; contains = c });
        only = one_leaf e.page e.leaf e.has e.level e.holds;
      }
