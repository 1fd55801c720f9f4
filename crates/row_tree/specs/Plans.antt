-- What the groups of a plan do to a set of images that tiles the table.
use Rattle.std.specs.Prelude.{◌≡◌, ◌<◌, ℕ, List, Result, Ok, Err}
use Rattle.std.specs.List.{AllByRecursion}
use Rattle.tm_data.specs.declared.transaction.Page.{Page}
use Rattle.tm_data.specs.declared.row.Row.{Row}
use Rattle.tm_data.specs.declared.image.Image.{Image}
use Rattle.tm_data.specs.declared.log.Record.{Record}
use Rattle.page_model.specs.Tree.{Images, path_of}
use Rattle.page_model.specs.Splits.{images_on}
use Rattle.page_model.specs.Sound.{IsSoundRow}
use Rattle.page_model.specs.Tiling.{Tiles, FitInTurn, after_all}
use Rattle.tree_laws.specs.Claims.{AreFresh, SetsRow, IsPartOf}
use Rattle.tree_laws.specs.Reach.{TilesFromRoot, PutsFromRoot}

-- The groups fit, each the images after the ones before it, and after the last one the images tile the table, the row
-- is there, and every other row is as before.
abbrev pub PutsInTurn : Images → ℕ → List (List Record) → ℕ → Row → Type 0
PutsInTurn images first groups table row =
    FitInTurn images first groups table × Tiles (after_all images groups first) table × SetsRow images (after_all images groups first) table row

-- So do the groups of a plan, in every set of images that tiles a table and has the path's images as these have them,
-- where the path is that of the row's key there, the fresh pages are blank and all different, and the stamps are above
-- those of the path.
abbrev pub Fitting : {E : Type 0} → Result (List (List Record)) E → Images → List Page → Row → List Page → ℕ → Type 0
Fitting (Err why) known path row fresh first = Unit {0}
Fitting (Ok groups) known path row fresh first =
    (images : Images) (table : ℕ) → images_on images path ≡ images_on known path → Tiles images table → path_of images table row.key ≡ Ok path
    → IsSoundRow row → AreFresh images fresh → AllByRecursion (λ (i : Image). i.stamp.0 < first) (images_on images path)
    → PutsInTurn images first groups table row

-- So do they in what is reached from the root, in every set of images that has all that the given ones have, where the
-- path is the one that is found among the given ones: the tiling is said of what is reached alone, and tables beside it
-- stay tiled, with the same rows.
abbrev pub FittingFromRoot : {E : Type 0} → Result (List (List Record)) E → Images → List Page → Row → List Page → ℕ → Type 0
FittingFromRoot (Err why) known path row fresh first = Unit {0}
FittingFromRoot (Ok groups) known path row fresh first =
    (images : Images) (table : ℕ) → IsPartOf known images → TilesFromRoot images table → path_of known table row.key ≡ Ok path
    → IsSoundRow row → AreFresh images fresh → AllByRecursion (λ (i : Image). i.stamp.0 < first) (images_on known path)
    → PutsFromRoot images first groups table row
