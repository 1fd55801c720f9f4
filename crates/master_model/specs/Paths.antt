-- The path of a key among the pages that a master holds, and what it asks for where one is wanting.
use Rattle.std.specs.Prelude.{ℕ, Bool, true, false, cond, List, [], ◌∷◌, Result, Ok, Err}
use Rattle.std.specs.Cmp.Lexicographic.{pointwise}
use Rattle.std.specs.Prelude.{nat_eq}
use Rattle.std.specs.declared.option.Option.{Option}
use Rattle.std.specs.declared.option.Option.TheVariants.{None, Some}
use Rattle.tm_data.specs.declared.image.Image.{Image}
use Rattle.tm_data.specs.declared.row.Row.{Row}
use Rattle.tm_data.specs.declared.transaction.Page.{Page}
use Rattle.tm_base.specs.declared.message.Message.{Message}
use Rattle.tm_base.specs.declared.message.Note.TheVariants as note
use Rattle.tm_base.specs.declared.reply.Reply.TheVariants as reply
use Rattle.page_model.specs.Pool.{image_of, used}
use Rattle.page_model.specs.Tiling.{rows_of}
use Rattle.page_model.specs.Tree.{Images, path_of}
use Rattle.page_model.specs.Splits.{images_on}
use Rattle.lease_desk.specs.declared.lease.Lease.{Lease}
use Rattle.lease_desk.specs.declared.lease.Lease.TheVariants as lease
use Rattle.lease_desk.specs.Desk.{lease_of, is_held}
use Rattle.master_model.specs.State.{Work, Answer, answers, page_named, message, to_locks, store_of}

-- The images of the pages that are held, and not recalled.
abbrev pub image_if : Work → ℕ → Bool → Option Image
image_if w page true = image_of page w.pool.images
image_if w page false = None

abbrev pub here : Work → Images
here w page = image_if w page (is_held (lease_of w.leases page).state)

-- ---- a page that isn't here

-- Its image is asked for, as of the stamp of its last change.
abbrev pub read_page : Work → Page → Message
read_page w page = record (message w (store_of w page.0) (note.ReadPage page)) { stamp = (lease_of w.leases page.0).stamp }

-- The lease of a page is asked for where there is none; its image where it is held; and nothing where the page is
-- on its way back.
abbrev pub asks_for : Work → Page → Lease → List Message
asks_for w page lease.None = to_locks w (note.Request w.log.writer page) ∷ []
asks_for w page lease.Held = read_page w page ∷ []
asks_for w page other = []

abbrev pub wants : Work → Page → Answer
wants w page = answers w (reply.AgainPage page) (asks_for w page (lease_of w.leases page.0).state)

-- ---- a path that is here

-- Each page of it is used once, root first.
abbrev pub used_all : List Page → List Image → List Image
used_all [] images = images
used_all (p ∷ ps) images = used_all ps (used p.0 images)

abbrev pub uses : Work → List Page → Work
uses w path = record w { pool = record w.pool { images = used_all path w.pool.images } }

-- The last image of a path, which is the leaf.
abbrev pub last_of : Option Image → List Image → Option Image
last_of image [] = image
last_of image (i ∷ is) = last_of (Some i) is

-- A command goes on with the path's leaf; a path always ends at one.
abbrev pub at_leaf : Work → Option Image → (Image → Answer) → Answer
at_leaf w None goes_on = wants w (page_named 0)
at_leaf w (Some leaf) goes_on = goes_on leaf

abbrev pub on_found : Work → Result (List Page) Page → (Work → List Page → Image → Answer) → Answer
on_found w (Err page) goes_on = wants w page
on_found w (Ok path) goes_on = at_leaf w (last_of None (images_on (here w) path)) (goes_on (uses w path) path)

-- A command goes on along the path of its key, or asks for the first page of it that isn't here.
abbrev pub on_path : Work → ℕ → List ℕ → (Work → List Page → Image → Answer) → Answer
on_path w table key goes_on = on_found w (path_of (here w) table key) goes_on

-- ---- a row of a leaf

abbrev pub row_in : List ℕ → List Row → Option Row
row_in key [] = None
row_in key (r ∷ rs) = cond (pointwise nat_eq r.key key) (Some r) (row_in key rs)

-- The row of a key, if there is one.
abbrev pub row_at : Image → List ℕ → Option Row
row_at leaf key = row_in key (rows_of leaf.body)
