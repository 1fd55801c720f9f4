-- The way to a key: the pages of its path, and the image of the leaf at which that ends.
use Rattle.std.specs.Prelude.{◌≡◌, ℕ, List, Result, Ok, Err}
use Rattle.std.specs.declared.option.Option.{Option}
use Rattle.std.specs.declared.option.Option.TheVariants.{None, Some}
use Rattle.tm_data.specs.declared.image.Image.{Image}
use Rattle.tm_data.specs.declared.transaction.Page.{Page}
use Rattle.page_model.specs.Splits.{images_on}
use Rattle.page_model.specs.Tree.{path_of}
use Rattle.master_model.specs.State.{Work, page_named}
use Rattle.master_model.specs.Paths.{here, last_of}
use Rattle.master_rows.specs.declared.paths.Way.{Way}

-- A way that is here.
pub record Leads : Type 0 where
  pub path : List Page
  pub leaf : Image

-- The same of the code's.
abbrev pub way_of : Way → Leads
way_of way = record { path = way.path; leaf = way.leaf.now }

-- A path that ends at a leaf; every path does.
abbrev pub leads_by : List Page → Option Image → Result Leads Page
leads_by path None = Err (page_named 0)
leads_by path (Some leaf) = Ok (record { path = path; leaf = leaf })

abbrev pub leads_along : Work → Result (List Page) Page → Result Leads Page
leads_along w (Err page) = Err page
leads_along w (Ok path) = leads_by path (last_of None (images_on (here w) path))

-- Where a key leads among the pages that are here, or the first page of its path that isn't.
abbrev pub leads : Work → ℕ → List ℕ → Result Leads Page
leads w table key = leads_along w (path_of (here w) table key)

-- What was found is the way, or the page that is wanting.
abbrev pub Finds : Result Way Page → Result Leads Page → Type 0
Finds (Ok way) led = led ≡ Ok (way_of way)
Finds (Err page) led = led ≡ Err page
