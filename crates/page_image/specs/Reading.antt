-- Reading rows and images from left to right, with the first fault that is met.
use Rattle.std.specs.Prelude.{ℕ, ◌-◌, not, List, length, Option, Some, None, Result, Ok, Err, nat_lt, nat_eq, if◌then◌else◌}
use Rattle.tm_data.specs.declared.transaction.Txn.{Txn}
use Rattle.tm_data.specs.declared.row.Row.{Row}
use Rattle.tm_data.specs.declared.row.Before.{Before}
use Rattle.tm_data.specs.declared.row.Before.TheVariants.{Same, Was}
use Rattle.tm_data.specs.declared.image.Image.{Image}
use Rattle.tm_data.specs.declared.image.Child.{Child}
use Rattle.tm_data.specs.declared.image.Body.{Body}
use Rattle.tm_data.specs.declared.image.Body.TheVariants.{Blank, Leaf, Inner}
use Rattle.wire_fields.specs.declared.error.ReadError.{ReadError}
use Rattle.wire_fields.specs.declared.error.ReadError.TheVariants.{NotCanonical}
use Rattle.wire_fields.specs.Reading.{Part, ◌>>=◌, offset_of, u8_at, u16_at, u32_at, u64_at, kind_at, key_at, fence_at, value_at, before_at, list_at, end_at}
use Rattle.key_fences.specs.Fences.{leave_room}
use Rattle.page_image.specs.Spelling.{Head, stands, key_of_row, key_of_child, last_stamp}

unfoldable pub txn_at : ℕ → List ℕ → Part Txn
txn_at total bytes = do
  writer ← u32_at total 1 4294967295 bytes
  number ← u32_at total 1 4294967295 writer.1
  Ok (record { writer = record { 0 = writer.0 }; number = number.0 }, number.1)

-- a key within the fences and above the last one
unfoldable pub placed_at : ℕ → Option (List ℕ) → Option (List ℕ) → Option (List ℕ) → List ℕ → Part (List ℕ)
placed_at total low high last bytes = do
  key ← key_at total bytes
  if not (stands low high last key.0) then Err (NotCanonical (offset_of total bytes)) else Ok key

abbrev pub before_of : Option (Option (List ℕ)) → Before
before_of None = Same
before_of (Some value) = Was value

-- a row behind its key
unfoldable pub row_after : ℕ → List ℕ → List ℕ → Part Row
row_after total key bytes = do
  txn ← txn_at total bytes
  now ← value_at total txn.1
  before ← before_at total now.0 now.1
  Ok (record { key = key; txn = txn.0; now = now.0; before = before_of before.0 }, before.1)

unfoldable pub row_at : ℕ → Option (List ℕ) → Option (List ℕ) → Option (List ℕ) → List ℕ → Part Row
row_at total low high last bytes = do
  key ← placed_at total low high last bytes
  row_after total key.0 key.1

unfoldable pub child_at : ℕ → Option (List ℕ) → Option (List ℕ) → Option (List ℕ) → List ℕ → Part Child
child_at total low high last bytes = do
  key ← placed_at total low high last bytes
  page ← u32_at total 0 4294967295 key.1
  Ok (record { key = key.0; page = record { 0 = page.0 } }, page.1)

abbrev pub rows_at : ℕ → Option (List ℕ) → Option (List ℕ) → Option (List ℕ) → ℕ → List ℕ → Part (List Row)
rows_at total low high last n bytes = list_at (row_at total low high) key_of_row last n bytes

abbrev pub children_at : ℕ → Option (List ℕ) → Option (List ℕ) → Option (List ℕ) → ℕ → List ℕ → Part (List Child)
children_at total low high last n bytes = list_at (child_at total low high) key_of_child last n bytes

-- a head whose level is from least to most, and whose fences have keys between them
unfoldable pub head_at : ℕ → ℕ → ℕ → List ℕ → Part Head
head_at total least most bytes = do
  table ← u16_at total 0 65535 bytes
  level ← u8_at total least most table.1
  low ← fence_at total level.1
  high ← fence_at total low.1
  if not (leave_room low.0 high.0) then Err (NotCanonical (offset_of total low.1)) else Ok (record { table = table.0; level = level.0; low = low.0; high = high.0 }, high.1)

unfoldable pub leaf_at : ℕ → List ℕ → Part Body
leaf_at total bytes = do
  head ← head_at total 0 0 bytes
  count ← u16_at total 0 65535 head.1
  rows ← rows_at total head.0.low head.0.high None count.0 count.1
  Ok (Leaf head.0.table head.0.low head.0.high rows.0, rows.1)

unfoldable pub inner_at : ℕ → List ℕ → Part Body
inner_at total bytes = do
  head ← head_at total 1 5 bytes
  count ← u16_at total 0 65535 head.1
  first ← u32_at total 0 4294967295 count.1
  entries ← children_at total head.0.low head.0.high None count.0 first.1
  Ok (Inner head.0.table head.0.level head.0.low head.0.high (record { 0 = first.0 }) entries.0, entries.1)

-- the body of this kind: nothing, a leaf, or else an inner page
unfoldable pub body_at : ℕ → ℕ → List ℕ → Part Body
body_at total kind bytes =
    if nat_eq kind 0 then Ok (Blank, bytes) else if nat_eq kind 1 then leaf_at total bytes else inner_at total bytes

unfoldable pub image_at : ℕ → List ℕ → Part Image
image_at total bytes = do
  kind ← kind_at total 0 2 bytes
  page ← u32_at total 1 4294967295 kind.1
  stamp ← u64_at total 0 (last_stamp kind.0) page.1
  body ← body_at total kind.0 stamp.1
  if nat_lt 8192 (length bytes - length body.1) then Err (NotCanonical (offset_of total bytes)) else Ok (record { page = record { 0 = page.0 }; stamp = record { 0 = stamp.0 }; body = body.0 }, body.1)

-- an image and nothing behind it
unfoldable pub image_of : List ℕ → Result Image ReadError
image_of bytes = do
  image ← image_at (length bytes) bytes
  none ← end_at (length bytes) image.1
  Ok image.0
