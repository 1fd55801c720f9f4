-- Tiling said of what is reached from a table's root alone, whatever other images the set has.
use Rattle.std.specs.Prelude.{◌≡◌, ◌≢◌, ◌↔◌, ℕ, zero, suc, Bool, true, false, not, cond, ◌&&◌, ◌||◌, nat_eq, List, [], ◌∷◌, ◌++◌, Option, Some, None, IsSome, Contains}
use Rattle.std.specs.List.{AllByRecursion}
use Rattle.std.specs.Ordering.{nat_cmp}
use Rattle.std.specs.Cmp.Lexicographic.{slice_cmp}
use Rattle.std.specs.FinMap.{FinMap, get}
use Rattle.tm_data.specs.declared.transaction.Page.{Page}
use Rattle.tm_data.specs.declared.row.Row.{Row}
use Rattle.tm_data.specs.declared.image.Body.{Body}
use Rattle.tm_data.specs.declared.image.Image.{Image}
use Rattle.tm_data.specs.declared.log.Record.{Record}
use Rattle.page_model.specs.Tree.{Images, Place, level_of, is_of, may_hold, children, there, one_below, root}
use Rattle.page_model.specs.Sound.{IsSound}
use Rattle.page_model.specs.Tiling.{rows_of, FitInTurn, after_all}

-- ---- what is reached

-- The children of what is at a place; none where nothing is.
abbrev pub children_of : Option Body → List Place
children_of None = []
children_of (Some body) = children body

-- The children of what is at each of these places, in order.
abbrev pub next_places : Images → ℕ → List Place → List Place
next_places images table [] = []
next_places images table (p ∷ ps) = children_of (there images table p) ++ next_places images table ps

-- The places to which so many steps from a page to a child lead from the table's root, in order.
abbrev pub places_after : Images → ℕ → ℕ → List Place
places_after images table zero = root table ∷ []
places_after images table (suc n) = next_places images table (places_after images table n)

-- Some number of steps leads to the place.
abbrev pub IsReached : Images → ℕ → Place → Type 0
IsReached images table place = (steps : ℕ) × Contains (places_after images table steps) place

-- ---- tiling

-- What is reached from a table's root tiles the table: at each place that is reached there is a page of the table
-- with the fences of the place, so that the root's are open; its children are there, one level below it, with the
-- fences that it gives them; it is sound, so that a leaf's rows lie within its fences; and its image is of its own
-- page.
pub record TilesFromRoot (images : Images) (table : ℕ) : Type 0 where
  pub present : (place : Place) → IsReached images table place → IsSome (there images table place)
  pub children : (place : Place) (body : Body) → IsReached images table place → there images table place ≡ Some body
      → AllByRecursion (λ child. IsSome (one_below (level_of body) (there images table child))) (children body)
  pub sound : (place : Place) (body : Body) → IsReached images table place → there images table place ≡ Some body → IsSound body
  pub own : (place : Place) (image : Image) → IsReached images table place → images place.page.0 ≡ Some image → image.page.0 ≡ place.page.0

-- The table has the row in a leaf that is reached.
pub record HasRowFromRoot (images : Images) (table : ℕ) (row : Row) : Type 0 where
  pub place : Place
  pub body : Body
  pub reached : IsReached images table place
  pub is : there images table place ≡ Some body
  pub contains : Contains (rows_of body) row

-- The row is there, alone under its key, and every other row is as before.
pub record SetsRowFromRoot (old new : Images) (table : ℕ) (row : Row) : Type 0 where
  pub there : HasRowFromRoot new table row
  pub alone : (other : Row) → other.key ≡ row.key → HasRowFromRoot new table other → other ≡ row
  pub others : (other : Row) → other.key ≢ row.key → HasRowFromRoot old table other ↔ HasRowFromRoot new table other

-- The two sets have the same rows of the table.
abbrev pub SameRowsFromRoot : Images → Images → ℕ → Type 0
SameRowsFromRoot old new table = (row : Row) → HasRowFromRoot old table row ↔ HasRowFromRoot new table row

-- The groups of a put: they fit, each the images after the ones before it; after them what is reached tiles the table,
-- with the row set and every other one as before; and a table beside it that was tiled is, with the same rows.
pub record PutsFromRoot (images : Images) (first : ℕ) (groups : List (List Record)) (table : ℕ) (row : Row) : Type 0 where
  pub fit : FitInTurn images first groups table
  pub tiles : TilesFromRoot (after_all images groups first) table
  pub sets : SetsRowFromRoot images (after_all images groups first) table row
  pub others : (other : ℕ) → other ≢ table → TilesFromRoot images other
      → TilesFromRoot (after_all images groups first) other × SameRowsFromRoot images (after_all images groups first) other

-- The table is a finite map: the rows that are reached by their keys.
pub record IsMapFromRoot (images : Images) (table : ℕ) (m : FinMap (slice_cmp nat_cmp) Row) : Type 0 where
  pub each : (key : List ℕ) (row : Row) → get m key ≡ Some row → HasRowFromRoot images table row × (row.key ≡ key)
  pub all : (row : Row) → HasRowFromRoot images table row → get m row.key ≡ Some row

-- ---- leaves

-- At the place there is a leaf.
abbrev pub IsLeafAt : Images → ℕ → Place → Type 0
IsLeafAt images table place = (body : Body) × (there images table place ≡ Some body) × (level_of body ≡ 0)

-- Each place begins where the one before it ends: the first at this low fence, and the last ends at this high one.
abbrev pub Follow : Option (List ℕ) → List Place → Option (List ℕ) → Type 0
Follow low [] high = low ≡ high
Follow low (p ∷ ps) high = (p.low ≡ low) × Follow p.high ps high

-- The places of all leaves that are reached: they follow each other, from an open fence to an open fence.
pub record AreLeaves (images : Images) (table : ℕ) (places : List Place) : Type 0 where
  pub follow : Follow None places None
  pub leaves : AllByRecursion (λ place. IsReached images table place × IsLeafAt images table place) places
  pub all : (place : Place) → IsReached images table place → IsLeafAt images table place → Contains places place

-- A path ends at a leaf that is reached and may hold the key, the only one of these; and a row of that key is in the
-- table exactly if it is in this leaf.
pub record LeadsFromRoot (images : Images) (table : ℕ) (key : List ℕ) (path : List Page) : Type 0 where
  pub front : List Page
  pub place : Place
  pub leaf : Body
  pub ends : path ≡ front ++ place.page ∷ []
  pub reached : IsReached images table place
  pub is : there images table place ≡ Some leaf
  pub level : level_of leaf ≡ 0
  pub holds : may_hold leaf key ≡ true
  pub only : (other : Place) (body : Body) → IsReached images table other → there images table other ≡ Some body
      → level_of body ≡ 0 → may_hold body key ≡ true → other ≡ place
  pub rows : (row : Row) → row.key ≡ key → HasRowFromRoot images table row ↔ Contains (rows_of leaf) row

-- ---- stray pages

-- The places to which less than so many steps lead.
abbrev pub places_within : Images → ℕ → ℕ → List Place
places_within images table zero = []
places_within images table (suc n) = places_after images table n ++ places_within images table n

-- The page is that of one of the places.
abbrev pub is_among : ℕ → List Place → Bool
is_among page [] = false
is_among page (p ∷ ps) = nat_eq p.page.0 page || is_among page ps

-- An image that is of the table and of none of the places is left out.
abbrev pub unless_stray : ℕ → ℕ → List Place → Option Image → Option Image
unless_stray table page places None = None
unless_stray table page places (Some image) = cond (is_of table image.body && not (is_among page places)) None (Some image)

-- The images without those of the table that are not reached. A tree has at most six levels, so that five steps lead
-- to all that is reached.
abbrev pub without_strays : Images → ℕ → Images
without_strays images table page = unless_stray table page (places_within images table 6) (images page)
