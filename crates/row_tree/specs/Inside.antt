-- Words of the crate's own functions.
use Rattle.std.specs.Prelude.{◌≡◌, ◌≤◌, ◌<◌, ◌-◌, ℕ, not, true, false, List, ◌++◌, length, map, reverse, Some, Result, Ok, Err}
use Rattle.std.specs.Option.{option_copied}
use Rattle.std.specs.List.Sorted.{IsPartitionPoint}
use Rattle.std.specs.Borrow.{Bor}
use Rattle.tm_data.specs.declared.transaction.Page.{Page}
use Rattle.tm_data.specs.declared.image.Child.{Child}
use Rattle.tm_data.specs.declared.image.Body.{Body}
use Rattle.tm_data.specs.declared.image.Image.{Image}
use Rattle.tm_data.specs.declared.log.Record.{Record}
use Rattle.row_tree.specs.declared.path.FindError.{FindError}
use Rattle.row_tree.specs.declared.path.FindError.TheVariants.{Need, NoMemory}
use Rattle.row_tree.specs.declared.plan.PlanError.{PlanError}
use Rattle.row_tree.specs.declared.plan.PlanError.TheVariants as plan
use Rattle.row_tree.specs.declared.place.Place as code
use Rattle.row_tree.specs.declared.groups.Spot as groups
use Rattle.row_tree.specs.declared.halves.RightHalf.{RightHalf}
use Rattle.key_fences.specs.Fences.{key_less}
use Rattle.page_model.specs.Splits.{Halves, Spot, Refusal, TooHigh, Wanting, images_on, halves}
use Rattle.page_model.specs.Tree as model
use Rattle.page_model.specs.Tree.{Images}

abbrev pub place_of : code.Place → model.Place
place_of p = record { page = p.page; low = option_copied p.low; high = option_copied p.high }

abbrev pub spot_in : groups.Spot → Spot
spot_in s = record { page = s.page; stamp = s.stamp.0; table = s.table }

-- The first so many entries have keys that are at most this one, and the others haven't.
abbrev pub ArePartedAt : List ℕ → List Child → ℕ → Type 0
ArePartedAt key entries n =
    IsPartitionPoint (λ c. not (key_less key c.key) ≡ true) (λ c. not (key_less key c.key) ≡ false) entries n

-- What was found is the path, or the first page that isn't there; want of memory says nothing.
abbrev pub Refuses : FindError → Result (List Page) Page → Type 0
Refuses (Need page) found = found ≡ Err page
Refuses NoMemory found = Unit {0}

abbrev pub GivesPath : Result (List Page) FindError → Result (List Page) Page → Type 0
GivesPath (Ok path) found = found ≡ Ok path
GivesPath (Err e) found = Refuses e found

-- The same where the pages found were added to a path.
abbrev pub GoesOn : List Page → List Page → Result (Unit {0}) FindError → Result (List Page) Page → Type 0
GoesOn old new (Ok done) found = (pages : List Page) × (found ≡ Ok pages) × (new ≡ old ++ pages)
GoesOn old new (Err e) found = Refuses e found

-- The images of a path's pages, from the leaf up.
abbrev pub upward : Images → List Page → List Image
upward images path = reverse (images_on images path)

abbrev pub images_at : List (Bor Image) → List Image
images_at refs = map (λ (r : Bor Image). r.now) refs

abbrev pub right_of : Halves → List ℕ × Body
right_of h = (h.separator, h.right)

abbrev pub right_in : RightHalf → List ℕ × Body
right_in h = (h.separator, h.body)

abbrev pub halves_of : RightHalf → Body → Halves
halves_of h left = record { separator = h.separator; left = left; right = h.body }

abbrev pub IsLeftOf : Body → List ℕ → Body → Type 0
IsLeftOf body separator left = (h : Halves) → halves body ≡ Some h → h.separator ≡ separator → left ≡ h.left

-- As many fresh pages as are needed, or so many are wanting.
abbrev pub IsEnough : ℕ → List Page → Result (Unit {0}) PlanError → Type 0
IsEnough needed fresh (Ok done) = needed ≤ length fresh
IsEnough needed fresh (Err (plan.Fresh wanting)) = (length fresh < needed) × (wanting ≡ needed - length fresh)
IsEnough needed fresh (Err plan.Height) = ⊥
IsEnough needed fresh (Err plan.NoMemory) = ⊥

-- The answer is the plan, or why there is none; want of memory says nothing.
abbrev pub GivesPlan : Result (List (List Record)) PlanError → Result (List (List Record)) Refusal → Type 0
GivesPlan (Ok groups) planned = planned ≡ Ok groups
GivesPlan (Err plan.Height) planned = planned ≡ Err TooHigh
GivesPlan (Err (plan.Fresh wanting)) planned = planned ≡ Err (Wanting wanting)
GivesPlan (Err plan.NoMemory) planned = Unit {0}
