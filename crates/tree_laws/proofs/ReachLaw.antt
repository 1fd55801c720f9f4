-- The laws on tiling, said of what is reached.
use Rattle.std.proofs.Common.{◌≡◌, ◌↔◌, ℕ, ◌<◌, List, Ok, refl, sym, ◌∙◌, subst, inl}
use Rattle.std.specs.List.{AllByRecursion}
use Rattle.std.specs.Ordering.{nat_cmp}
use Rattle.std.specs.Cmp.Lexicographic.{slice_cmp}
use Rattle.std.specs.FinMap.{FinMap, insert}
use Rattle.tm_data.specs.declared.transaction.Page.{Page}
use Rattle.tm_data.specs.declared.row.Row.{Row}
use Rattle.tm_data.specs.declared.image.Image.{Image}
use Rattle.tm_data.specs.declared.log.Record.{Record}
use Rattle.page_model.specs.Tree.{Images, path_of}
use Rattle.page_model.specs.Sound.{IsSoundRow}
use Rattle.page_model.specs.Splits.{images_on, plan_of}
use Rattle.page_model.specs.Tiling.{Tiles, HasRow, IsMap, FitInTurn, after_all}
use Rattle.tree_laws.specs.Claims.{SetsRow, AreFresh}
use Rattle.tree_laws.specs.Reach.{TilesFromRoot, HasRowFromRoot, SetsRowFromRoot, IsMapFromRoot, without_strays}
use Rattle.tree_laws.proofs.FitLemmas.{all_tile}
use Rattle.tree_laws.proofs.MapLemmas.{map_set}
use Rattle.tree_laws.proofs.TableMap.{table_map}
use Rattle.tree_laws.proofs.PlanFits.{Both}
use Rattle.tree_laws.proofs.PlanLaw.{plan_fits}
use Rattle.tree_laws.proofs.ReachGroups.{all_fit_too}
use Rattle.tree_laws.proofs.ReachStrays.{strays_left, fresh_left, tiles_left, rows_left}
use Rattle.tree_laws.proofs.ReachParts.{IsPart, tiles_from_root, rows_from_root}
use Rattle.tree_laws.proofs.ReachPlan.{same_path, same_images, same_plan, part_after_all}

-- a set is a part of itself
itself : (images : Images) → IsPart images images
itself images x = inl refl

pub reached_tiles : (images : Images) (table : ℕ) → Tiles images table → TilesFromRoot images table × ((row : Row) → HasRow images table row ↔ HasRowFromRoot images table row)
reached_tiles images table tiles = (tiles_from_root images images table (itself images) tiles, rows_from_root images images table (itself images) tiles)

-- ---- groups

module _ (images : Images) (table first : ℕ) (groups : List (List Record)) (t : TilesFromRoot images table)
    (fit : FitInTurn (without_strays images table) first groups table) where
  abbrev left : Images
  left = without_strays images table

  tiles_then : Tiles (after_all left groups first) table
  tiles_then = all_tile left first groups table (tiles_left images table t) fit

  part_then : IsPart (after_all left groups first) (after_all images groups first)
  part_then = part_after_all images left groups first (strays_left images table)

  pub reached_then : TilesFromRoot (after_all images groups first) table
  reached_then = tiles_from_root (after_all images groups first) (after_all left groups first) table part_then tiles_then

  rows_then : (row : Row) → HasRow (after_all left groups first) table row ↔ HasRowFromRoot (after_all images groups first) table row
  rows_then = rows_from_root (after_all images groups first) (after_all left groups first) table part_then tiles_then

  pub sets_then : (row : Row) → SetsRow left (after_all left groups first) table row → SetsRowFromRoot images (after_all images groups first) table row
  sets_then row s = record {
    there = (rows_then row).0 s.there;
    alone = λ other same h. s.alone other same ((rows_then other).1 h);
    others = λ other differ. (
      (λ h. (rows_then other).0 ((s.others other differ).0 ((rows_left images table t other).0 h))),
      (λ h. (rows_left images table t other).1 ((s.others other differ).1 ((rows_then other).1 h))),
    );
  }

-- ---- a plan

-- what a plan is made of
pub record Planned (images : Images) (table first : ℕ) (row : Row) (path fresh : List Page) (groups : List (List Record)) : Type 0 where
  pub reached : TilesFromRoot images table
  pub found : path_of images table row.key ≡ Ok path
  pub sound : IsSoundRow row
  pub are_fresh : AreFresh images fresh
  pub old : AllByRecursion (λ (i : Image). i.stamp.0 < first) (images_on images path)
  pub made : plan_of images path row fresh first ≡ Ok groups

module _ (images : Images) (table first : ℕ) (row : Row) (path fresh : List Page) (groups : List (List Record))
    (p : Planned images table first row path fresh groups) where
  abbrev rest : Images
  rest = without_strays images table

  fit_and_set : Both rest first groups table row
  fit_and_set =
      let tiles = tiles_left images table p.reached in
      let found : path_of rest table row.key ≡ Ok path = sym (same_path images rest table row.key (strays_left images table) tiles) ∙ p.found in
      let same = same_images images rest table row.key (strays_left images table) tiles path found in
      let old = subst (λ (is : List Image). AllByRecursion (λ (i : Image). i.stamp.0 < first) is) same p.old in
      let blank = fresh_left images table fresh p.are_fresh in
      let made = sym (same_plan images rest path row fresh first same) ∙ p.made in
      plan_fits rest table first row path fresh groups tiles found p.sound blank.blank blank.differ old made

  pub plan_reached : FitInTurn images first groups table × TilesFromRoot (after_all images groups first) table × SetsRowFromRoot images (after_all images groups first) table row
  plan_reached = (
    all_fit_too images rest first groups table (strays_left images table) fit_and_set.0,
    reached_then images table first groups p.reached fit_and_set.0,
    sets_then images table first groups p.reached fit_and_set.0 row fit_and_set.1,
  )

  pub plan_map : (m : FinMap (slice_cmp nat_cmp) Row) → IsMapFromRoot images table m → IsMapFromRoot (after_all images groups first) table (insert m row.key row)
  plan_map m is =
      let rows = rows_left images table p.reached in
      let then = rows_then images table first groups p.reached fit_and_set.0 in
      let map_left : IsMap rest table m = record { each = λ key r g. (let k = is.each key r g in ((rows r).0 k.0, k.1)); all = λ r h. is.all r ((rows r).1 h) } in
      let after = map_set rest (after_all rest groups first) table row m fit_and_set.1 map_left in
      record { each = λ key r g. (let k = after.each key r g in ((then r).0 k.0, k.1)); all = λ r h. after.all r ((then r).1 h) }

-- ---- the map of a table

pub map_reached : (images : Images) (table : ℕ) → TilesFromRoot images table → (m : FinMap (slice_cmp nat_cmp) Row) × IsMapFromRoot images table m
map_reached images table t =
    let rows = rows_left images table t in
    let m = table_map (without_strays images table) table (tiles_left images table t) in
    (m.0, record { each = λ key r g. (let k = m.1.each key r g in ((rows r).1 k.0, k.1)); all = λ r h. m.1.all r ((rows r).0 h) })
