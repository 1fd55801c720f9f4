-- What a record of a log does to a page.
use Rattle.std.specs.Prelude.{ℕ, Bool, true, false, cond, ◌&&◌, nat_eq, nat_le, List, [], ◌∷◌, filter}
use Rattle.std.specs.declared.option.Option.{Option}
use Rattle.std.specs.declared.option.Option.TheVariants.{None, Some}
use Rattle.tm_data.specs.declared.transaction.Page.{Page}
use Rattle.tm_data.specs.declared.row.Row.{Row}
use Rattle.tm_data.specs.declared.image.Child.{Child}
use Rattle.tm_data.specs.declared.image.Body.{Body}
use Rattle.tm_data.specs.declared.image.Body.TheVariants.{Blank, Leaf, Inner}
use Rattle.tm_data.specs.declared.image.Image.{Image}
use Rattle.tm_data.specs.declared.log.Record.{Record}
use Rattle.tm_data.specs.declared.log.Record.TheVariants.{RowSet, Cut, Format, NodeAdd, End, Beat}
pub use Rattle.tm_data.specs.Records.{page_of}
use Rattle.tm_base.specs.Sizes.{size_with}
use Rattle.key_fences.specs.Fences.{key_less, is_within, is_strictly_within}

-- ---- the first version of a page

-- Pages 1 to 1,024 are the roots of the tables of these numbers, and empty leaves at first. All others are blank.
abbrev pub initial_body : ℕ → Body
initial_body page = cond (nat_le 1 page && nat_le page 1024) (Leaf page None None []) Blank

abbrev pub initial : Page → Image
initial page = record { page = page; stamp = record { 0 = 0 }; body = initial_body page.0 }

-- ---- rows and entries in their places

-- The rows with one of this key set: in the place of the row that has the key, or between those of lesser and of
-- greater keys.
abbrev pub row_set : List Row → Row → List Row
row_set [] row = row ∷ []
row_set (r ∷ rs) row = cond (key_less r.key row.key) (r ∷ row_set rs row) (cond (key_less row.key r.key) (row ∷ r ∷ rs) (row ∷ rs))

-- An entry in front of those that another one has found its place in.
abbrev pub in_front : Child → Option (List Child) → Option (List Child)
in_front c None = None
in_front c (Some cs) = Some (c ∷ cs)

-- The entries with one more in its place; none where the key has an entry.
abbrev pub entry_added : List Child → Child → Option (List Child)
entry_added [] child = Some (child ∷ [])
entry_added (c ∷ cs) child = cond (key_less c.key child.key) (in_front c (entry_added cs child)) (cond (key_less child.key c.key) (Some (child ∷ c ∷ cs)) None)

-- The rows, and the entries, with keys below this one.
abbrev pub rows_below : List ℕ → List Row → List Row
rows_below at rows = filter (λ r. key_less r.key at) rows

abbrev pub entries_below : List ℕ → List Child → List Child
entries_below at entries = filter (λ c. key_less c.key at) entries

-- ---- what a record does

-- A body that has at most the 8,192 bytes that an image may have.
abbrev pub fitting : Body → Option Body
fitting body = cond (nat_le (size_with body) 8192) (Some body) None

-- The record suits, and this is what the page then holds; else it doesn't.
abbrev pub suiting : Bool → Body → Option Body
suiting true body = fitting body
suiting false body = None

abbrev pub with_entries : ℕ → ℕ → Option (List ℕ) → Option (List ℕ) → Page → Option (List Child) → Option Body
with_entries table level low high first None = None
with_entries table level low high first (Some entries) = fitting (Inner table level low high first entries)

-- A page with the row of that key set: a leaf of the table, with the key within its fences.
abbrev pub row_set_in : Body → ℕ → Row → Option Body
row_set_in (Leaf table low high rows) of row = suiting (nat_eq table of && is_within low high row.key) (Leaf table low high (row_set rows row))
row_set_in body of row = None

-- A page without the keys from one on, which becomes its high fence; the key parts what is between the fences.
abbrev pub cut_at : Body → List ℕ → Option Body
cut_at Blank at = None
cut_at (Leaf table low high rows) at = suiting (is_strictly_within low high at) (Leaf table low (Some at) (rows_below at rows))
cut_at (Inner table level low high first entries) at =
    suiting (is_strictly_within low high at) (Inner table level low (Some at) first (entries_below at entries))

-- A page is made a leaf or an inner one, whatever it was.
abbrev pub formatted : Body → Option Body
formatted Blank = None
formatted body = Some body

-- A page with one more child: an inner page, with the key within its fences and new.
abbrev pub child_added : Body → Child → Option Body
child_added (Inner table level low high first entries) child =
    cond (is_within low high child.key) (with_entries table level low high first (entry_added entries child)) None
child_added body child = None

-- What a page holds after a record; none where the record doesn't suit it. What says nothing of pages suits none.
abbrev pub redone : Body → Record → Option Body
redone body (RowSet page prev table row) = row_set_in body table row
redone body (Cut page prev at) = cut_at body at
redone body (Format page prev new) = formatted new
redone body (NodeAdd page prev key child) = child_added body (record { key = key; page = child })
redone body (End txn committed) = None
redone body Beat = None

-- The version that a record makes of one, by the stamp of the record's group.
abbrev pub stamped : Image → ℕ → Option Body → Option Image
stamped image stamp None = None
stamped image stamp (Some body) = Some (record { page = image.page; stamp = record { 0 = stamp }; body = body })

abbrev pub redone_at : Image → Record → ℕ → Option Image
redone_at image change stamp = stamped image stamp (redone image.body change)

-- ---- what a record names

-- The stamp of the version that it changes; 0 where it changes none.
abbrev pub prev_of : Record → ℕ
prev_of (RowSet page prev table row) = prev.0
prev_of (Cut page prev at) = prev.0
prev_of (Format page prev body) = prev.0
prev_of (NodeAdd page prev key child) = prev.0
prev_of (End txn committed) = 0
prev_of Beat = 0
