-- What a part of a set of images says of paths and plans, and of the images after groups.
use Rattle.std.proofs.Common.{◌≡◌, ℕ, zero, suc, ◌+◌, List, [], ◌∷◌, reverse, Option, Some, None, Ok, refl, sym, ap, ◌∙◌, subst, inl, inr}
use Rattle.std.specs.List.{AllByRecursion}
use Rattle.std.specs.Prelude.{IsSome}
use Rattle.tm_data.specs.declared.transaction.Page.{Page}
use Rattle.tm_data.specs.declared.row.Row.{Row}
use Rattle.tm_data.specs.declared.image.Image.{Image}
use Rattle.tm_data.specs.declared.image.Body.{Body}
use Rattle.tm_data.specs.declared.image.Body.TheVariants.{Blank, Leaf, Inner}
use Rattle.tm_data.specs.declared.log.Record.{Record}
use Rattle.page_model.specs.Tree.{Images, Place, level_of, children, child_for, there, one_below, root, with_page, going_on, path_below, path_of}
use Rattle.page_model.specs.Sound.{IsSound}
use Rattle.page_model.specs.Splits.{with_image, images_on, full_pages, page_above, plan_with, plan_of}
use Rattle.page_model.specs.Tiling.{Has, Tiles, record_on, changed, after, after_all}
use Rattle.tree_laws.proofs.ListLemmas.{IsIn}
use Rattle.tree_laws.proofs.PlaceLemmas.{focus}
use Rattle.tree_laws.proofs.ThereLemmas.{IsThere, there_from, there_is, root_is}
use Rattle.tree_laws.proofs.ChainLemmas.{in_all}
use Rattle.tree_laws.proofs.PathFits.{in_middle, page_by, on_by}
use Rattle.tree_laws.proofs.WayLemmas.{all_there}
use Rattle.tree_laws.proofs.ReachParts.{IsPart, in_whole, there_too, top_part, top_whole}

-- ---- a path's images are those of the part

module _ (whole part : Images) (table : ℕ) (key : List ℕ) (is_part : IsPart part whole) where
  pub with_same : (page : Page) (i : Image) (rest : List Page) → part page.0 ≡ Some i → images_on whole rest ≡ images_on part rest → images_on whole (page ∷ rest) ≡ images_on part (page ∷ rest)
  with_same page i rest at same =
      ap (λ o. with_image o (images_on whole rest)) (in_whole whole part is_part page.0 i at ∙ sym at) ∙ ap (with_image (part page.0)) same

  none_on : (pages : List Page) → [] ≡ pages → images_on whole pages ≡ images_on part pages
  none_on pages e = ap (images_on whole) (sym e) ∙ ap (images_on part) e

  pub images_below : (n : ℕ) (body : Body) (pages : List Page) → path_below part table key n body ≡ Ok pages → images_on whole pages ≡ images_on part pages
  images_below zero Blank pages found = none_on pages (cc)
  images_below zero (Leaf t low high rows) pages found = none_on pages (cc)
  images_below zero (Inner t level low high first entries) pages found = cc
  images_below (suc n) Blank pages found = none_on pages (cc)
  images_below (suc n) (Leaf t low high rows) pages found = none_on pages (cc)
  images_below (suc n) (Inner t level low high first entries) pages found =
      let place = child_for key low high first entries in
      let a = on_by place.page (one_below level (there part table place)) (path_below part table key n) pages found in
      let p = page_by place.page (path_below part table key n a.0) pages a.2 in
      let here = there_from part table level place (subst (λ o. IsSome o) (sym a.1) refl) in
      let same = with_same place.page here.image p.0 here.at (images_below n a.0 p.0 p.1) in
      ap (images_on whole) p.2 ∙ same ∙ ap (images_on part) (sym p.2)

-- ---- where the part tiles the table, each key has the same path

module _ (whole part : Images) (table : ℕ) (key : List ℕ) (is_part : IsPart part whole) (tiles : Tiles part table) where
  same_below : (n x : ℕ) (k : Image) (body : Body) → k.body ≡ body → Has part table x k → path_below whole table key n body ≡ path_below part table key n body
  same_below zero x k Blank e has = refl
  same_below zero x k (Leaf t low high rows) e has = refl
  same_below zero x k (Inner t level low high first entries) e has = refl
  same_below (suc n) x k Blank e has = refl
  same_below (suc n) x k (Leaf t low high rows) e has = refl
  same_below (suc n) x k (Inner t level low high first entries) e has =
      let body = Inner t level low high first entries in
      let ok = subst (λ (b : Body). IsSound b) e (tiles.sound x k has) in
      let f = focus key t level low high first entries ok.parts.1.ascend in
      let child = child_for key low high first entries in
      let P : List Place → Type 0 = λ ps. IsIn child ps in
      let among : IsIn child (children body) = subst P (sym f.is) (in_middle f.before child f.after) in
      let all = subst (λ (b : Body). AllByRecursion (IsThere part table (level_of b)) (children b)) e (all_there part table key tiles x k has) in
      let c = in_all (IsThere part table level) (children body) child all among in
      let w = there_too whole part table is_part tiles level child c in
      let below : Has part table child.page.0 c.image = record { held = c.at; of = c.of } in
      ap (λ o. going_on child.page o (path_below whole table key n)) (there_is whole table level child w)
      ∙ ap (with_page child.page) (same_below n child.page.0 c.image c.image.body refl below)
      ∙ sym (ap (λ o. going_on child.page o (path_below part table key n)) (there_is part table level child c))

  pub same_path : path_of whole table key ≡ path_of part table key
  same_path =
      let r = top_part whole part table is_part tiles in
      let w = top_whole whole part table is_part tiles in
      ap (λ o. going_on (root table).page o (λ body. path_below whole table key (level_of body) body)) (root_is whole table w)
      ∙ ap (with_page (root table).page) (same_below (level_of r.image.body) table r.image r.image.body refl r.has)
      ∙ sym (ap (λ o. going_on (root table).page o (λ body. path_below part table key (level_of body) body)) (root_is part table r))

  pub same_images : (path : List Page) → path_of part table key ≡ Ok path → images_on whole path ≡ images_on part path
  same_images path found =
      let r = top_part whole part table is_part tiles in
      let a = on_by (root table).page (there part table (root table)) (λ body. path_below part table key (level_of body) body) path found in
      let p = page_by (root table).page (path_below part table key (level_of a.0) a.0) path a.2 in
      let same = with_same whole part table key is_part (root table).page r.image p.0 r.has.held (images_below whole part table key is_part (level_of a.0) a.0 p.0 p.1) in
      ap (images_on whole) p.2 ∙ same ∙ ap (images_on part) (sym p.2)

-- a plan is made of the path's images alone
pub same_plan : (whole part : Images) (path : List Page) (row : Row) (fresh : List Page) (first : ℕ) → images_on whole path ≡ images_on part path → plan_of whole path row fresh first ≡ plan_of part path row fresh first
same_plan whole part path row fresh first e =
    ap (λ (is : List Image). plan_with row fresh first (page_above row (reverse is)) (reverse (full_pages row (reverse is)))) e

-- ---- after groups the part is one of the whole

none_stays : (o : Option Record) (stamp : ℕ) → changed None o stamp ≡ None
none_stays None stamp = refl
none_stays (Some change) stamp = refl

pub part_after : (whole part : Images) (group : List Record) (stamp : ℕ) → IsPart part whole → IsPart (after part group stamp) (after whole group stamp)
part_after whole part group stamp is_part x =
    elim (is_part x) [
      | inl e ↦ inl (ap (λ o. changed o (record_on x group) stamp) e)
      | inr n ↦ inr (ap (λ o. changed o (record_on x group) stamp) n ∙ none_stays (record_on x group) stamp)
    ]

pub part_after_all : (whole part : Images) (groups : List (List Record)) (stamp : ℕ) → IsPart part whole → IsPart (after_all part groups stamp) (after_all whole groups stamp)
part_after_all whole part [] stamp is_part = is_part
part_after_all whole part (group ∷ groups) stamp is_part =
    part_after_all (after whole group stamp) (after part group stamp) groups (stamp + 1) (part_after whole part group stamp is_part)
