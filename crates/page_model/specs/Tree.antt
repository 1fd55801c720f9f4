-- A table's tree of pages: where a key leads in it, and which pages of that way are there.
use Rattle.std.specs.Prelude.{ℕ, zero, suc, ◌+◌, Bool, false, cond, ◌&&◌, nat_eq, List, [], ◌∷◌, Option, Some, None, Result, Ok, Err}
use Rattle.tm_data.specs.declared.transaction.Page.{Page}
use Rattle.tm_data.specs.declared.image.Child.{Child}
use Rattle.tm_data.specs.declared.image.Body.{Body}
use Rattle.tm_data.specs.declared.image.Body.TheVariants.{Blank, Leaf, Inner}
use Rattle.tm_data.specs.declared.image.Image.{Image}
use Rattle.key_fences.specs.Fences.{is_from, is_within, same_fence}

-- A set of images: at most one for each page.
abbrev pub Images : Type 0
Images = ℕ → Option Image

-- ---- what a body says of itself

-- How far the leaves are below.
abbrev pub level_of : Body → ℕ
level_of Blank = 0
level_of (Leaf table low high rows) = 0
level_of (Inner table level low high first entries) = level

abbrev pub table_of : Body → ℕ
table_of Blank = 0
table_of (Leaf table low high rows) = table
table_of (Inner table level low high first entries) = table

abbrev pub low_of : Body → Option (List ℕ)
low_of Blank = None
low_of (Leaf table low high rows) = low
low_of (Inner table level low high first entries) = low

abbrev pub high_of : Body → Option (List ℕ)
high_of Blank = None
high_of (Leaf table low high rows) = high
high_of (Inner table level low high first entries) = high

-- A page of the table: a leaf or an inner page, not a blank one.
abbrev pub is_of : ℕ → Body → Bool
is_of table Blank = false
is_of table (Leaf of low high rows) = nat_eq of table
is_of table (Inner of level low high first entries) = nat_eq of table

-- The key may stand in the page or below it.
abbrev pub may_hold : Body → List ℕ → Bool
may_hold body key = is_within (low_of body) (high_of body) key

-- ---- children

-- A page as its parent gives it: for the keys from the low fence on and below the high one.
pub record Place : Type 0 where
  pub page : Page
  pub low : Option (List ℕ)
  pub high : Option (List ℕ)

-- Up to where the keys of the page before these entries go: to the next entry's key, and where there is none, to
-- the parent's high fence.
abbrev pub next_fence : List Child → Option (List ℕ) → Option (List ℕ)
next_fence [] high = high
next_fence (c ∷ cs) high = Some c.key

-- The first child is for the keys from the parent's low fence on.
abbrev pub first_place : Option (List ℕ) → Option (List ℕ) → Page → List Child → Place
first_place low high first entries = record { page = first; low = low; high = next_fence entries high }

-- The child of an entry is for the keys from the entry's key on.
abbrev pub entry_places : Option (List ℕ) → List Child → List Place
entry_places high [] = []
entry_places high (c ∷ cs) = record { page = c.page; low = Some c.key; high = next_fence cs high } ∷ entry_places high cs

-- The last of the places that begin at or before the key; where none does, this one.
abbrev pub last_from : List ℕ → Place → List Place → Place
last_from key place [] = place
last_from key place (p ∷ ps) = last_from key (cond (is_from p.low key) p place) ps

-- The child to which a key leads: that of the last entry whose key is at most the key, else the first child.
abbrev pub child_for : List ℕ → Option (List ℕ) → Option (List ℕ) → Page → List Child → Place
child_for key low high first entries = last_from key (first_place low high first entries) (entry_places high entries)

-- All children, in order.
abbrev pub children : Body → List Place
children (Inner table level low high first entries) = first_place low high first entries ∷ entry_places high entries
children body = []

-- ---- what is there

-- The page at a place is of the table and has the fences that the place gives it.
abbrev pub is_at : ℕ → Place → Body → Bool
is_at table place body = is_of table body && same_fence (low_of body) place.low && same_fence (high_of body) place.high

abbrev pub body_at : ℕ → Place → Option Image → Option Body
body_at table place None = None
body_at table place (Some image) = cond (is_at table place image.body) (Some image.body) None

-- What is there at a place: nothing where the set has no image, or one that is blank, of another table, or has
-- other fences.
abbrev pub there : Images → ℕ → Place → Option Body
there images table place = body_at table place (images place.page.0)

-- Of what is there, what is exactly one level below this one.
abbrev pub one_below : ℕ → Option Body → Option Body
one_below level None = None
one_below level (Some body) = cond (nat_eq (level_of body + 1) level) (Some body) None

-- The root of a table is the page of the table's number, and has open fences.
abbrev pub root : ℕ → Place
root table = record { page = record { 0 = table }; low = None; high = None }

-- ---- the path

-- A path is the list of its pages, or the first page of it that isn't there.
abbrev pub with_page : Page → Result (List Page) Page → Result (List Page) Page
with_page page (Ok pages) = Ok (page ∷ pages)
with_page page (Err missing) = Err missing

-- A path that comes to a page goes on from what is there, and ends at a page where nothing is.
abbrev pub going_on : Page → Option Body → (Body → Result (List Page) Page) → Result (List Page) Page
going_on page None from = Err page
going_on page (Some body) from = with_page page (from body)

-- The path below a page of this level, down to the leaf to which the key leads. What is not exactly one level
-- below its parent isn't there; so below level 0 nothing is.
abbrev pub path_below : Images → ℕ → List ℕ → ℕ → Body → Result (List Page) Page
path_below images table key zero (Inner of level low high first entries) = Err (child_for key low high first entries).page
path_below images table key zero body = Ok []
path_below images table key (suc n) (Inner of level low high first entries) =
    let place = child_for key low high first entries in
    going_on place.page (one_below level (there images table place)) (path_below images table key n)
path_below images table key (suc n) body = Ok []

-- The path of a key: the pages from the table's root down to the leaf to which the key leads, or the first of
-- these pages that isn't there.
abbrev pub path_of : Images → ℕ → List ℕ → Result (List Page) Page
path_of images table key =
    going_on (root table).page (there images table (root table)) (λ body. path_below images table key (level_of body) body)
