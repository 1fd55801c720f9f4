-- What the laws say of a table before and after a group, and of a path in it.
use Rattle.std.specs.Prelude.{◌≡◌, ◌≢◌, ◌↔◌, ℕ, true, List, [], ◌∷◌, ◌++◌, Some, Contains}
use Rattle.std.specs.List.{AllByRecursion}
use Rattle.tm_data.specs.declared.transaction.Page.{Page}
use Rattle.tm_data.specs.declared.row.Row.{Row}
use Rattle.tm_data.specs.declared.image.Image.{Image}
use Rattle.page_model.specs.Tree.{Images, level_of, may_hold}
use Rattle.page_model.specs.Tiling.{Has, HasRow, rows_of, blank_page}
pub use Rattle.page_model.specs.Tiling.{first_images}

-- Some of a set's images, as a master has them in memory: each that the part has the whole has, and the same one.
abbrev pub IsPartOf : Images → Images → Type 0
IsPartOf part whole = (p : ℕ) (i : Image) → part p ≡ Some i → whole p ≡ Some i

-- The table has the same rows.
abbrev pub SameRows : Images → Images → ℕ → Type 0
SameRows old new table = (row : Row) → HasRow old table row ↔ HasRow new table row

-- The row is there, alone under its key, and every other row is as before.
pub record SetsRow (old new : Images) (table : ℕ) (row : Row) : Type 0 where
  pub there : HasRow new table row
  pub alone : (other : Row) → other.key ≡ row.key → HasRow new table other → other ≡ row
  pub others : (other : Row) → other.key ≢ row.key → HasRow old table other ↔ HasRow new table other

-- The pages are all different.
abbrev pub Differ : List Page → Type 0
Differ [] = Unit {0}
Differ (f ∷ fs) = AllByRecursion (λ (g : Page). f.0 ≢ g.0) fs × Differ fs

-- Fresh pages: blank ones, all different.
pub record AreFresh (images : Images) (fresh : List Page) : Type 0 where
  pub blank : AllByRecursion (λ (f : Page). images f.0 ≡ Some (blank_page f)) fresh
  pub differ : Differ fresh

-- A path ends at a leaf that may hold the key, the only one that may; and a row of that key is in the table exactly
-- if it is in this leaf.
pub record LeadsToItsRow (images : Images) (table : ℕ) (key : List ℕ) (path : List Page) : Type 0 where
  pub front : List Page
  pub page : Page
  pub leaf : Image
  pub ends : path ≡ front ++ page ∷ []
  pub has : Has images table page.0 leaf
  pub level : level_of leaf.body ≡ 0
  pub holds : may_hold leaf.body key ≡ true
  pub only : (p : ℕ) (other : Image) → Has images table p other → level_of other.body ≡ 0 → may_hold other.body key ≡ true → p ≡ page.0
  pub rows : (row : Row) → row.key ≡ key → HasRow images table row ↔ Contains (rows_of leaf.body) row
