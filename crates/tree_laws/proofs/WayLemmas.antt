-- Where images tile a table, every key has a path.
use Rattle.std.proofs.Common.{◌≡◌, ℕ, zero, suc, ◌≤◌, true, false, List, [], ◌∷◌, length, Some, Ok, refl, ap, ◌∙◌, subst, arith}
use Rattle.std.specs.List.{AllByRecursion}
use Rattle.std.specs.Prelude.{IsSome}
use Rattle.tm_data.specs.declared.transaction.Page.{Page}
use Rattle.tm_data.specs.declared.image.Image.{Image}
use Rattle.tm_data.specs.declared.image.Body.{Body}
use Rattle.tm_data.specs.declared.image.Body.TheVariants.{Blank, Leaf, Inner}
use Rattle.page_model.specs.Tree.{Images, Place, level_of, is_of, children, child_for, there, one_below, root, with_page, going_on, path_below, path_of}
use Rattle.page_model.specs.Sound.{IsSound}
use Rattle.page_model.specs.Tiling.{Has, Tiles}
use Rattle.tree_laws.proofs.ListLemmas.{all_map, all_back}
use Rattle.tree_laws.proofs.PlaceLemmas.{focus}
use Rattle.tree_laws.proofs.ThereLemmas.{IsThere, there_from, there_is, root_from, root_is}

pub level_limited : (body : Body) → IsSound body → level_of body ≤ 5
level_limited Blank ok = omega arith
level_limited (Leaf t low high rows) ok = omega arith
level_limited (Inner t level low high first entries) ok = ok.parts.3

module _ (images : Images) (table : ℕ) (key : List ℕ) (tiles : Tiles images table) where
  abbrev Way : ℕ → Body → Type 0
  Way n body = (pages : List Page) × (path_below images table key n body ≡ Ok pages) × (length pages ≡ n)

  pub all_there : (x : ℕ) (k : Image) → Has images table x k → AllByRecursion (IsThere images table (level_of k.body)) (children k.body)
  all_there x k has =
      all_map (λ pl. IsSome (one_below (level_of k.body) (there images table pl))) (IsThere images table (level_of k.body)) (children k.body)
      (there_from images table (level_of k.body)) (tiles.children x k has)

  goes : (n level : ℕ) (place : Place) (body : Body) → one_below level (there images table place) ≡ Some body → Way n body
      → (pages : List Page) × (going_on place.page (one_below level (there images table place)) (path_below images table key n) ≡ Ok pages) × (length pages ≡ suc n)
  goes n level place body e way = (
    place.page ∷ way.0,
    ap (λ o. going_on place.page o (path_below images table key n)) e ∙ ap (with_page place.page) way.1,
    ap suc way.2,
  )

  way_by : (n : ℕ) (body : Body) → is_of table body ≡ true → IsSound body → level_of body ≡ n → AllByRecursion (IsThere images table (level_of body)) (children body) → Way n body
  way_by zero Blank of ok lev below = let e : false ≡ true = of in cc
  way_by zero (Leaf t low high rows) of ok lev below = ([], refl, refl)
  way_by zero (Inner t level low high first entries) of ok lev below = let le = ok.parts.2 in absurd (omega (arith, le, lev))
  way_by (suc n) Blank of ok lev below = absurd (omega (arith, lev))
  way_by (suc n) (Leaf t low high rows) of ok lev below = absurd (omega (arith, lev))
  way_by (suc n) (Inner t level low high first entries) of ok lev below =
      let f = focus key t level low high first entries ok.parts.1.ascend in
      let place = child_for key low high first entries in
      let here = (all_back (IsThere images table level) f.before (place ∷ f.after) (subst (λ (ps : List Place). AllByRecursion (IsThere images table level) ps) f.is below)).0 in
      let has : Has images table place.page.0 here.image = record { held = here.at; of = here.of } in
      let lower : level_of here.image.body ≡ n = (let b = here.below in omega (arith, b, lev)) in
      goes n level place here.image.body (there_is images table level place here)
      (way_by n here.image.body here.of (tiles.sound place.page.0 here.image has) lower (all_there place.page.0 here.image has))

  pub way : (path : List Page) × (path_of images table key ≡ Ok path) × (length path ≤ 6)
  way =
      let r = root_from images table tiles.root in
      let ok = tiles.sound table r.image r.has in
      let w = way_by (level_of r.image.body) r.image.body r.has.of ok refl (all_there table r.image r.has) in
      let limit = level_limited r.image.body ok in
      let count = w.2 in (
        (root table).page ∷ w.0,
        ap (λ o. going_on (root table).page o (λ body. path_below images table key (level_of body) body)) (root_is images table r) ∙ ap (with_page (root table).page) w.1,
        omega (arith, limit, count),
      )
