-- A table's pages in memory, and its keys.
use Rattle.std.specs.Prelude.{◌≡◌, ℕ, ◌-◌, true, cond, nat_eq, nat_lt, List, [], ◌∷◌, Some, None, slice_get, Contains}
use Rattle.tm_data.specs.declared.row.Row.{Row}
use Rattle.tm_data.specs.declared.image.Body.{Body}
use Rattle.tm_data.specs.declared.image.Image.{Image}
use Rattle.tm_data.specs.declared.log.Record.{Record}
use Rattle.page_model.specs.Tree.{Images, is_of}
use Rattle.page_model.specs.Tiling.{rows_of, HasRow, after}
use Rattle.round_works.specs.declared.shelf.Shelf.{Shelf}

-- The root is page 1, and the others are those from page 1,025 on.
abbrev pub images_on : Image → List Image → Images
images_on root others page =
    cond (nat_eq page 1) (Some root) (cond (nat_lt page 1025) None (slice_get others (page - 1025)))

abbrev pub on_shelf : Shelf → Images
on_shelf s = images_on s.root s.others.items

-- One of the rows has the key.
abbrev pub HasRowOf : List Row → List ℕ → Type 0
HasRowOf rows key = (row : Row) × Contains rows row × (row.key ≡ key)

-- A page of the table has a row of the key.
abbrev pub LeafHas : ℕ → Body → List ℕ → Type 0
LeafHas table body key = (is_of table body ≡ true) × HasRowOf (rows_of body) key

-- The table has a row of the key.
abbrev pub HasKey : Images → ℕ → List ℕ → Type 0
HasKey images table key = (row : Row) × HasRow images table row × (row.key ≡ key)

-- Each page becomes what the record makes of it with this stamp: its own page another version, all others the same.
abbrev pub Redoes : Images → Images → Record → ℕ → Type 0
Redoes old new change stamp = (page : ℕ) → new page ≡ after old (change ∷ []) stamp page
