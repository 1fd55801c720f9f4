-- Reading records and groups from left to right, with the first fault that is met.
use Rattle.std.specs.Prelude.{◌≡◌, ℕ, ◌-◌, ◌+◌, Bool, not, List, [], length, map, Option, Some, None, Result, Ok, Err, nat_lt, nat_le, nat_eq, if◌then◌else◌}
use Rattle.tm_data.specs.declared.vector.VectorEntry.{VectorEntry}
use Rattle.tm_data.specs.declared.log.Record.{Record}
use Rattle.tm_data.specs.declared.log.Record.TheVariants.{RowSet, Cut, Format, NodeAdd, End, Beat}
use Rattle.tm_data.specs.declared.log.Group.{Group}
use Rattle.wire_fields.specs.declared.error.ReadError.{ReadError}
use Rattle.wire_fields.specs.declared.error.ReadError.TheVariants.{NotCanonical}
use Rattle.wire_fields.specs.Reading.{Part, ◌>>=◌, offset_of, u8_at, u16_at, u32_at, u64_at, kind_at, key_at, vector_at, list_at, end_at}
use Rattle.page_image.specs.Reading.{txn_at, row_at, body_at}
use Rattle.log_record.specs.declared.item.Place.{Place}
use Rattle.log_record.specs.Spelling.{entry_of, page_of}

-- the page and its stamp in a record whose kind stands at `start`
unfoldable pub place_at : ℕ → ℕ → ℕ → ℕ → List ℕ → Part Place
place_at total stamp last start bytes = do
  page ← u32_at total 1 4294967295 bytes
  if nat_le page.0 last then Err (NotCanonical start) else do
    prev ← u64_at total 0 (stamp - 1) page.1
    Ok (record { page = record { 0 = page.0 }; prev = record { 0 = prev.0 } }, prev.1)

unfoldable pub row_set_at : ℕ → Place → List ℕ → Part Record
row_set_at total p bytes = do
  table ← u16_at total 0 65535 bytes
  r ← row_at total None None None table.1
  Ok (RowSet p.page p.prev table.0 r.0, r.1)

unfoldable pub cut_at : ℕ → Place → List ℕ → Part Record
cut_at total p bytes = do
  key ← key_at total bytes
  Ok (Cut p.page p.prev key.0, key.1)

unfoldable pub format_at : ℕ → Place → List ℕ → Part Record
format_at total p bytes = do
  kind ← kind_at total 0 2 bytes
  body ← body_at total kind.0 kind.1
  if nat_lt 8192 ((length bytes - length body.1) + 12) then Err (NotCanonical (offset_of total bytes)) else Ok (Format p.page p.prev body.0, body.1)

unfoldable pub node_add_at : ℕ → Place → List ℕ → Part Record
node_add_at total p bytes = do
  key ← key_at total bytes
  child ← u32_at total 0 4294967295 key.1
  Ok (NodeAdd p.page p.prev key.0 (record { 0 = child.0 }), child.1)

-- a change of this kind, 1 to 4
unfoldable pub change_at : ℕ → ℕ → Place → List ℕ → Part Record
change_at total kind p bytes =
    if nat_eq kind 1 then row_set_at total p bytes else if nat_eq kind 2 then cut_at total p bytes else if nat_eq kind 3 then format_at total p bytes else node_add_at total p bytes

unfoldable pub ending_at : ℕ → List ℕ → Part Record
ending_at total bytes = do
  txn ← txn_at total bytes
  committed ← u8_at total 0 1 txn.1
  Ok (End txn.0 (nat_eq committed.0 1), committed.1)

-- an End or a Beat, which stands alone
unfoldable pub word_at : ℕ → Bool → ℕ → ℕ → List ℕ → Part Record
word_at total alone start kind bytes =
    if not alone then Err (NotCanonical start) else if nat_eq kind 5 then ending_at total bytes else Ok (Beat, bytes)

unfoldable pub item_at : ℕ → ℕ → Bool → ℕ → List ℕ → Part Record
item_at total stamp alone last bytes = do
  kind ← kind_at total 1 6 bytes
  if nat_le kind.0 4 then (place_at total stamp last (offset_of total bytes) kind.1 >>= λ p. change_at total kind.0 p.0 p.1) else word_at total alone (offset_of total bytes) kind.0 kind.1

abbrev pub items_at : ℕ → ℕ → Bool → ℕ → ℕ → List ℕ → Part (List Record)
items_at total stamp alone last n bytes = list_at (item_at total stamp alone) page_of last n bytes

-- a vector that has no entry of the own writer
unfoldable pub learnt_at : ℕ → ℕ → List ℕ → Part (List VectorEntry)
learnt_at total own bytes = do
  pairs ← vector_at total own bytes
  Ok (map entry_of pairs.0, pairs.1)

unfoldable pub group_at : ℕ → ℕ → List ℕ → Part Group
group_at total least bytes = do
  writer ← u32_at total 1 4294967295 bytes
  seq ← u32_at total 1 4294967295 writer.1
  stamp ← u64_at total 1 9223372036854775807 seq.1
  learnt ← learnt_at total writer.0 stamp.1
  count ← u16_at total least 65535 learnt.1
  records ← items_at total stamp.0 (nat_eq count.0 1) 0 count.0 count.1
  if nat_lt 65536 (length bytes - length records.1) then Err (NotCanonical (offset_of total bytes)) else Ok (record { writer = record { 0 = writer.0 }; seq = seq.0; stamp = record { 0 = stamp.0 }; learnt = learnt.0; records = records.0 }, records.1)

-- a group and nothing behind it
unfoldable pub group_of : ℕ → List ℕ → Result Group ReadError
group_of least bytes = do
  group ← group_at (length bytes) least bytes
  none ← end_at (length bytes) group.1
  Ok group.0
