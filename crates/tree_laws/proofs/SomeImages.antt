-- A path and a plan that are made of some of a set's images.
use Rattle.std.proofs.Common.{◌≡◌, ◌<◌, ℕ, zero, suc, List, ◌∷◌, Option, Some, None, Ok, refl, sym, ap, ◌∙◌, subst, inl, inr, ◌⊎◌}
use Rattle.std.specs.List.{AllByRecursion}
use Rattle.tm_data.specs.declared.transaction.Page.{Page}
use Rattle.tm_data.specs.declared.row.Row.{Row}
use Rattle.tm_data.specs.declared.image.Image.{Image}
use Rattle.tm_data.specs.declared.image.Body.{Body}
use Rattle.tm_data.specs.declared.image.Body.TheVariants.{Blank, Leaf, Inner}
use Rattle.tm_data.specs.declared.log.Record.{Record}
use Rattle.page_model.specs.Tree.{Images, Place, level_of, child_for, body_at, there, one_below, root, with_page, going_on, path_below, path_of}
use Rattle.page_model.specs.Sound.{IsSoundRow}
use Rattle.page_model.specs.Splits.{images_on, plan_of}
use Rattle.tree_laws.specs.Claims.{IsPartOf, AreFresh}
use Rattle.tree_laws.specs.Reach.{TilesFromRoot, PutsFromRoot}
use Rattle.tree_laws.proofs.PathFits.{page_by, on_by}
use Rattle.tree_laws.proofs.ReachParts.{IsPart}
use Rattle.tree_laws.proofs.ReachPlan.{with_same, images_below, same_plan}
use Rattle.tree_laws.proofs.ReachLaw.{plan_reached}
use Rattle.tree_laws.proofs.ReachGroups.{others_stay_reached}

part_by : (whole part : Images) → IsPartOf part whole → (x : ℕ) (o : Option Image) → part x ≡ o → (o ≡ whole x) ⊎ (o ≡ None)
part_by whole part is x None e = inr refl
part_by whole part is x (Some i) e = inl (sym (is x i e))

pub part_of : (whole part : Images) → IsPartOf part whole → IsPart part whole
part_of whole part is x = part_by whole part is x (part x) refl

module _ (whole part : Images) (table : ℕ) (key : List ℕ) (is : IsPartOf part whole) where
  there_by : (place : Place) (b : Body) (o : Option Image) → part place.page.0 ≡ o → body_at table place o ≡ Some b → there whole table place ≡ Some b
  there_by place b None e h = cc
  there_by place b (Some i) e h = ap (body_at table place) (is place.page.0 i e) ∙ h

  there_too : (place : Place) (b : Body) → there part table place ≡ Some b → there whole table place ≡ Some b
  there_too place b h = there_by place b (part place.page.0) refl h

  below_by : (level : ℕ) (place : Place) (b : Body) (o : Option Body) → there part table place ≡ o → one_below level o ≡ Some b → one_below level (there whole table place) ≡ Some b
  below_by level place b None e h = cc
  below_by level place b (Some x) e h = ap (one_below level) (there_too place x e) ∙ h

  goes : (page : Page) (o : Option Body) (from : Body → _) (b : Body) (rest pages : List Page) → o ≡ Some b → from b ≡ Ok rest → pages ≡ page ∷ rest → going_on page o from ≡ Ok pages
  goes page o from b rest pages e f g = ap (λ o. going_on page o from) e ∙ ap (with_page page) f ∙ ap Ok (sym g)

  path_stays_below : (n : ℕ) (body : Body) (pages : List Page) → path_below part table key n body ≡ Ok pages → path_below whole table key n body ≡ Ok pages
  path_stays_below zero Blank pages found = found
  path_stays_below zero (Leaf t low high rows) pages found = found
  path_stays_below zero (Inner t level low high first entries) pages found = found
  path_stays_below (suc n) Blank pages found = found
  path_stays_below (suc n) (Leaf t low high rows) pages found = found
  path_stays_below (suc n) (Inner t level low high first entries) pages found =
      let place = child_for key low high first entries in
      let a = on_by place.page (one_below level (there part table place)) (path_below part table key n) pages found in
      let p = page_by place.page (path_below part table key n a.0) pages a.2 in
      goes place.page (one_below level (there whole table place)) (path_below whole table key n) a.0 p.0 pages
      (below_by level place a.0 (there part table place) refl a.1) (path_stays_below n a.0 p.0 p.1) p.2

  pub path_stays : (path : List Page) → path_of part table key ≡ Ok path → path_of whole table key ≡ Ok path
  path_stays path found =
      let a = on_by (root table).page (there part table (root table)) (λ body. path_below part table key (level_of body) body) path found in
      let p = page_by (root table).page (path_below part table key (level_of a.0) a.0) path a.2 in
      goes (root table).page (there whole table (root table)) (λ body. path_below whole table key (level_of body) body) a.0 p.0 path
      (there_too (root table) a.0 a.1) (path_stays_below (level_of a.0) a.0 p.0 p.1) p.2

  -- what is there has an image
  image_by : (o : Option Image) (b : Body) → part table ≡ o → body_at table (root table) o ≡ Some b → (i : Image) × (part table ≡ Some i)
  image_by None b e h = cc
  image_by (Some i) b e h = (i, e)

  pub path_images : (path : List Page) → path_of part table key ≡ Ok path → images_on whole path ≡ images_on part path
  path_images path found =
      let a = on_by (root table).page (there part table (root table)) (λ body. path_below part table key (level_of body) body) path found in
      let p = page_by (root table).page (path_below part table key (level_of a.0) a.0) path a.2 in
      let i = image_by (part table) a.0 refl a.1 in
      let parts = part_of whole part is in
      let same = with_same whole part table key parts (root table).page i.0 p.0 i.1 (images_below whole part table key parts (level_of a.0) a.0 p.0 p.1) in
      ap (images_on whole) p.2 ∙ same ∙ ap (images_on part) (sym p.2)

pub plan_of_part : (images part : Images) (table first : ℕ) (row : Row) (path fresh : List Page) (groups : List (List Record))
    → IsPartOf part images → TilesFromRoot images table → path_of part table row.key ≡ Ok path → IsSoundRow row → AreFresh images fresh
    → AllByRecursion (λ (i : Image). i.stamp.0 < first) (images_on part path) → plan_of part path row fresh first ≡ Ok groups → PutsFromRoot images first groups table row
plan_of_part images part table first row path fresh groups is t found sound are_fresh old made =
    let same = path_images images part table row.key is path found in
    let d = plan_reached images table first row path fresh groups (record {
      reached = t;
      found = path_stays images part table row.key is path found;
      sound = sound;
      are_fresh = are_fresh;
      old = subst (λ (is : List Image). AllByRecursion (λ (i : Image). i.stamp.0 < first) is) (sym same) old;
      made = same_plan images part path row fresh first same ∙ made;
    }) in
    record {
      fit = d.0;
      tiles = d.1;
      sets = d.2;
      others = λ other differ u. others_stay_reached images first groups table other differ d.0 u;
    }
