-- A set of images tiles a table; and when a group of records fits the images that it names.
use Rattle.std.specs.Prelude.{◌≡◌, ◌≢◌, ◌⊎◌, ℕ, ◌+◌, ◌≤◌, ◌<◌, Bool, true, false, cond, nat_eq, List, [], ◌∷◌, ◌++◌, Option, Some, None, IsSome, Contains}
use Rattle.std.specs.List.{AllByRecursion}
use Rattle.std.specs.Ordering.{nat_cmp}
use Rattle.std.specs.Cmp.Lexicographic.{slice_cmp}
use Rattle.std.specs.FinMap.{FinMap, get}
use Rattle.tm_data.specs.declared.transaction.Page.{Page}
use Rattle.tm_data.specs.declared.row.Row.{Row}
use Rattle.tm_data.specs.declared.image.Child.{Child}
use Rattle.tm_data.specs.declared.image.Body.{Body}
use Rattle.tm_data.specs.declared.image.Body.TheVariants.{Blank, Leaf, Inner}
use Rattle.tm_data.specs.declared.image.Image.{Image}
use Rattle.tm_data.specs.declared.log.Record.{Record}
use Rattle.tm_base.specs.Sizes.{size_with}
use Rattle.key_fences.specs.Fences.{is_within, is_strictly_within}
use Rattle.page_model.specs.Effects.{initial, row_set, cut_at, child_added, redone_at, page_of}
use Rattle.page_model.specs.Tree.{Images, level_of, table_of, low_of, high_of, is_of, may_hold, children, child_for, there, one_below, root}
use Rattle.page_model.specs.Splits.{Halves, spot_of, row_group, split_group, root_group}
use Rattle.page_model.specs.Sound.{IsSound, IsSoundRow}

-- ---- tiling

-- The set has this image for the page, and it is of the table.
pub record Has (images : Images) (table p : ℕ) (image : Image) : Type 0 where
  pub held : images p ≡ Some image
  pub of : is_of table image.body ≡ true

-- Of two pages of one level no key may stand in both.
abbrev pub AreApart : Images → ℕ → Type 0
AreApart images table =
    (p q : ℕ) (i j : Image) (key : List ℕ) → Has images table p i → Has images table q j → level_of i.body ≡ level_of j.body
    → may_hold i.body key ≡ true → may_hold j.body key ≡ true → p ≡ q

-- A set of images tiles a table: the root is there, with open fences; the children of each inner page are there, one
-- level below it, with the fences that it gives them; no page is above the root's level; and no two pages of a level
-- may have one key. So each key lies in exactly one leaf, the one to which it leads. Each image is sound, so that the
-- rows of a leaf lie within its fences, and is of its own page.
pub record Tiles (images : Images) (table : ℕ) : Type 0 where
  pub root : IsSome (there images table (root table))
  pub children : (p : ℕ) (i : Image) → Has images table p i
      → AllByRecursion (λ place. IsSome (one_below (level_of i.body) (there images table place))) (children i.body)
  pub top : (p : ℕ) (i r : Image) → Has images table p i → Has images table table r → level_of i.body ≤ level_of r.body
  pub apart : AreApart images table
  pub sound : (p : ℕ) (i : Image) → Has images table p i → IsSound i.body
  pub own : (p : ℕ) (i : Image) → Has images table p i → i.page.0 ≡ p

-- ---- the rows of a table

abbrev pub rows_of : Body → List Row
rows_of Blank = []
rows_of (Leaf table low high rows) = rows
rows_of (Inner table level low high first entries) = []

-- The table has the row: it is in one of its leaves.
pub record HasRow (images : Images) (table : ℕ) (row : Row) : Type 0 where
  pub page : ℕ
  pub image : Image
  pub has : Has images table page image
  pub contains : Contains (rows_of image.body) row

-- The table is a finite map: its rows by their keys.
pub record IsMap (images : Images) (table : ℕ) (m : FinMap (slice_cmp nat_cmp) Row) : Type 0 where
  pub each : (key : List ℕ) (row : Row) → get m key ≡ Some row → HasRow images table row × (row.key ≡ key)
  pub all : (row : Row) → HasRow images table row → get m row.key ≡ Some row

-- ---- what a group makes of a set of images

-- The page that a record names, if it names one, is this one.
abbrev pub is_named : Option ℕ → ℕ → Bool
is_named None page = false
is_named (Some named) page = nat_eq named page

-- The record of a group that changes the page.
abbrev pub record_on : ℕ → List Record → Option Record
record_on page [] = None
record_on page (r ∷ rs) = cond (is_named (page_of r) page) (Some r) (record_on page rs)

abbrev pub changed : Option Image → Option Record → ℕ → Option Image
changed image None stamp = image
changed None (Some change) stamp = None
changed (Some image) (Some change) stamp = redone_at image change stamp

-- The images after a group of this stamp. An image that its record doesn't suit is gone.
abbrev pub after : Images → List Record → ℕ → Images
after images group stamp page = changed (images page) (record_on page group) stamp

-- The first version of each page.
abbrev pub first_images : Images
first_images page = Some (initial (record { 0 = page }))

-- The images after groups with stamps from this one on.
abbrev pub after_all : Images → List (List Record) → ℕ → Images
after_all images [] stamp = images
after_all images (group ∷ groups) stamp = after_all (after images group stamp) groups (stamp + 1)

-- ---- when a group fits

abbrev pub blank_page : Page → Image
blank_page page = record { page = page; stamp = record { 0 = 0 }; body = Blank }

-- The image is the page's present one, and older than the group.
pub record IsBefore (images : Images) (image : Image) (stamp : ℕ) : Type 0 where
  pub present : images image.page.0 ≡ Some image
  pub older : image.stamp.0 < stamp

-- A row is put into a leaf whose fences hold its key, and fits there.
pub record PutsRow (images : Images) (stamp : ℕ) (group : List Record) (table : ℕ) (row : Row) (leaf : Image) : Type 0 where
  pub low : Option (List ℕ)
  pub high : Option (List ℕ)
  pub rows : List Row
  pub before : IsBefore images leaf stamp
  pub body : leaf.body ≡ Leaf table low high rows
  pub within : is_within low high row.key ≡ true
  pub fits : size_with (Leaf table low high (row_set rows row)) ≤ 8192
  pub sound : IsSoundRow row
  pub is : group ≡ row_group row (spot_of leaf)

-- A body in two halves: together they have its fences, its rows and its children, and the separator is between them.
pub record AreHalves (body : Body) (h : Halves) : Type 0 where
  pub inside : is_strictly_within (low_of body) (high_of body) h.separator ≡ true
  pub level_left : level_of h.left ≡ level_of body
  pub level_right : level_of h.right ≡ level_of body
  pub low_left : low_of h.left ≡ low_of body
  pub high_left : high_of h.left ≡ Some h.separator
  pub low_right : low_of h.right ≡ Some h.separator
  pub high_right : high_of h.right ≡ high_of body
  pub rows : rows_of h.left ++ rows_of h.right ≡ rows_of body
  pub children : children h.left ++ children h.right ≡ children body
  pub table_left : is_of (table_of body) h.left ≡ true
  pub table_right : is_of (table_of body) h.right ≡ true
  pub sound_left : IsSound h.left
  pub sound_right : IsSound h.right

-- A page splits under its parent: the separator leads from the parent to the page. A cut leaves the left half on the
-- page, a blank page gets the right one, and the parent has room for one more entry.
pub record Splits (images : Images) (stamp : ℕ) (group : List Record) (table : ℕ) (page parent : Image) (h : Halves) (fresh : Page) : Type 0 where
  pub level : ℕ
  pub low : Option (List ℕ)
  pub high : Option (List ℕ)
  pub first : Page
  pub entries : List Child
  pub new : Body
  pub before : IsBefore images page stamp
  pub before_parent : IsBefore images parent stamp
  pub blank : images fresh.0 ≡ Some (blank_page fresh)
  pub of : is_of table page.body ≡ true
  pub above : parent.body ≡ Inner table level low high first entries
  pub level_is : level_of page.body + 1 ≡ level
  pub leads : (child_for h.separator low high first entries).page ≡ page.page
  pub parted : AreHalves page.body h
  pub cut : cut_at page.body h.separator ≡ Some h.left
  pub added : child_added parent.body (record { key = h.separator; page = fresh }) ≡ Some new
  pub is : group ≡ split_group (spot_of parent) (spot_of page) h fresh

-- The root of a table splits, if the tree has less than six levels: two blank pages get the halves, and the root is
-- one level higher and has these two as its children.
pub record SplitsRoot (images : Images) (stamp : ℕ) (group : List Record) (table : ℕ) (page : Image) (h : Halves) (left right : Page) : Type 0 where
  pub before : IsBefore images page stamp
  pub blank_left : images left.0 ≡ Some (blank_page left)
  pub blank_right : images right.0 ≡ Some (blank_page right)
  pub differ : left.0 ≢ right.0
  pub of : is_of table page.body ≡ true
  pub is_root : page.page.0 ≡ table
  pub low : low_of page.body ≡ None
  pub high : high_of page.body ≡ None
  pub lower : level_of page.body < 5
  pub parted : AreHalves page.body h
  pub is : group ≡ root_group page h left right

-- A group on no page: an End or a Beat, which stands alone.
pub record IsOnNoPage (group : List Record) : Type 0 where
  pub change : Record
  pub names : page_of change ≡ None
  pub is : group ≡ change ∷ []

-- A group fits the images that it names: it is a put, a split, a split of a root, or on no page.
abbrev pub Fits : Images → ℕ → List Record → ℕ → Type 0
Fits images stamp group table =
    ((row : Row) × (leaf : Image) × PutsRow images stamp group table row leaf)
    ⊎ ((page : Image) × (parent : Image) × (h : Halves) × (fresh : Page) × Splits images stamp group table page parent h fresh)
    ⊎ ((page : Image) × (h : Halves) × (left : Page) × (right : Page) × SplitsRoot images stamp group table page h left right)
    ⊎ IsOnNoPage group

-- Groups with stamps from this one on fit, each the images after the ones before it.
abbrev pub FitInTurn : Images → ℕ → List (List Record) → ℕ → Type 0
FitInTurn images stamp [] table = Unit {0}
FitInTurn images stamp (group ∷ groups) table = Fits images stamp group table × FitInTurn (after images group stamp) (stamp + 1) groups table
