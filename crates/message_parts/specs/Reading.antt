-- Reading the parts of messages from left to right, with the first fault that is met.
use Rattle.std.specs.Prelude.{ℕ, Bool, not, ◌&&◌, List, length, Ok, Err, nat_lt, nat_le, nat_eq, if◌then◌else◌}
use Rattle.tm_data.specs.declared.transaction.Writer.{Writer}
use Rattle.tm_data.specs.declared.transaction.Page.{Page}
use Rattle.tm_data.specs.declared.transaction.Stamp.{Stamp}
use Rattle.tm_data.specs.declared.log.Group.{Group}
use Rattle.tm_base.specs.declared.message.Node.{Node}
use Rattle.tm_base.specs.declared.message.Node.TheVariants.{Master, LogStore, PageStore, LockManager, Replica}
use Rattle.tm_base.specs.declared.message.PageStamp.{PageStamp}
use Rattle.tm_base.specs.declared.message.RosterEntry.{RosterEntry}
use Rattle.tm_base.specs.declared.message.Tag.{Tag}
use Rattle.tm_base.specs.declared.message.WriterState.{WriterState}
use Rattle.tm_base.specs.declared.message.WriterState.TheVariants as told
use Rattle.wire_fields.specs.declared.error.ReadError.TheVariants.{NotCanonical}
use Rattle.wire_fields.specs.Reading.{Part, ◌>>=◌, offset_of, u8_at, u16_at, u32_at, u64_at, kind_at, key_at, list_at}
use Rattle.key_fences.specs.Fences.{key_less}
use Rattle.log_record.specs.Reading.{group_at}
use Rattle.message_parts.specs.Spelling.{after_any, above_page, no_tag, last_tag, writer_of}

-- ---- numbers

unfoldable pub writer_at : ℕ → List ℕ → Part Writer
writer_at total bytes = do
  number ← u32_at total 1 4294967295 bytes
  Ok (record { 0 = number.0 }, number.1)

unfoldable pub page_at : ℕ → List ℕ → Part Page
page_at total bytes = do
  number ← u32_at total 0 4294967295 bytes
  Ok (record { 0 = number.0 }, number.1)

unfoldable pub stamp_at : ℕ → List ℕ → Part Stamp
stamp_at total bytes = do
  number ← u64_at total 0 9223372036854775807 bytes
  Ok (record { 0 = number.0 }, number.1)

unfoldable pub flag_at : ℕ → List ℕ → Part Bool
flag_at total bytes = do
  number ← u8_at total 0 1 bytes
  Ok (nat_eq number.0 1, number.1)

-- ---- nodes

-- the greatest number of a node of this kind
abbrev pub last_number : ℕ → ℕ
last_number kind = if nat_eq kind 4 then 1 else 255

abbrev pub node_of : ℕ → ℕ → Node
node_of kind number =
    if nat_eq kind 1 then Master number else if nat_eq kind 2 then LogStore number else if nat_eq kind 3 then PageStore number else if nat_eq kind 4 then LockManager else Replica number

unfoldable pub node_at : ℕ → List ℕ → Part Node
node_at total bytes = do
  kind ← kind_at total 1 5 bytes
  number ← u8_at total 1 (last_number kind.0) kind.1
  Ok (node_of kind.0 number.0, number.1)

-- ---- lists

abbrev pub next_group_at : ℕ → Unit {0} → List ℕ → Part Group
next_group_at total before bytes = group_at total 1 bytes

abbrev pub group_list_at : ℕ → ℕ → List ℕ → Part (List Group)
group_list_at total n bytes = list_at (next_group_at total) after_any tt n bytes

unfoldable pub groups_at : ℕ → List ℕ → Part (List Group)
groups_at total bytes = do
  n ← u32_at total 0 4294967295 bytes
  group_list_at total n.0 n.1

-- a page from `least` on, and its stamp
unfoldable pub page_stamp_at : ℕ → ℕ → List ℕ → Part PageStamp
page_stamp_at total least bytes = do
  page ← page_at total bytes
  if nat_lt page.0.0 least then Err (NotCanonical (offset_of total bytes)) else do
    stamp ← stamp_at total page.1
    Ok (record { page = page.0; stamp = stamp.0 }, stamp.1)

abbrev pub page_list_at : ℕ → ℕ → ℕ → List ℕ → Part (List PageStamp)
page_list_at total least n bytes = list_at (page_stamp_at total) above_page least n bytes

unfoldable pub page_stamps_at : ℕ → List ℕ → Part (List PageStamp)
page_stamps_at total bytes = do
  n ← u32_at total 0 4294967295 bytes
  page_list_at total 0 n.0 n.1

-- The order of tags is decided as soon as it can be: by a lower key, by a lower writer under the same
-- key, or by no greater number under the same key and writer.
abbrev pub key_sinks : Tag → List ℕ → Bool
key_sinks last key = key_less key last.key

abbrev pub writer_sinks : Tag → List ℕ → ℕ → Bool
writer_sinks last key writer = not (key_less last.key key) && nat_lt writer last.txn.writer.0

abbrev pub number_stays : Tag → List ℕ → ℕ → ℕ → Bool
number_stays last key writer number = not (key_less last.key key) && (nat_le writer last.txn.writer.0 && nat_le number last.txn.number)

-- a tag after the last one, behind its key
unfoldable pub tag_after : ℕ → Tag → ℕ → List ℕ → List ℕ → Part Tag
tag_after total last start key bytes = do
  writer ← writer_at total bytes
  if writer_sinks last key writer.0.0 then Err (NotCanonical start) else do
    number ← u32_at total 1 4294967295 writer.1
    if number_stays last key writer.0.0 number.0 then Err (NotCanonical start) else Ok (record { key = key; txn = record { writer = writer.0; number = number.0 } }, number.1)

unfoldable pub tag_at : ℕ → Tag → List ℕ → Part Tag
tag_at total last bytes = do
  key ← key_at total bytes
  if key_sinks last key.0 then Err (NotCanonical (offset_of total bytes)) else tag_after total last (offset_of total bytes) key.0 key.1

abbrev pub tag_list_at : ℕ → Tag → ℕ → List ℕ → Part (List Tag)
tag_list_at total last n bytes = list_at (tag_at total) last_tag last n bytes

unfoldable pub tags_at : ℕ → List ℕ → Part (List Tag)
tags_at total bytes = do
  n ← u32_at total 0 4294967295 bytes
  tag_list_at total no_tag n.0 n.1

abbrev pub state_of : ℕ → WriterState
state_of number = if nat_eq number 0 then told.Live else if nat_eq number 1 then told.Closed else told.Recovered

-- an entry of a writer above the one before
unfoldable pub entry_at : ℕ → ℕ → List ℕ → Part RosterEntry
entry_at total after bytes = do
  writer ← writer_at total bytes
  if nat_le writer.0.0 after then Err (NotCanonical (offset_of total bytes)) else do
    master ← u8_at total 0 255 writer.1
    state ← u8_at total 0 2 master.1
    length ← u32_at total 0 4294967295 state.1
    start ← stamp_at total length.1
    Ok (record { writer = writer.0; master = master.0; state = state_of state.0; length = length.0; start = start.0 }, start.1)

abbrev pub entry_list_at : ℕ → ℕ → ℕ → List ℕ → Part (List RosterEntry)
entry_list_at total after n bytes = list_at (entry_at total) writer_of after n bytes

unfoldable pub roster_at : ℕ → List ℕ → Part (List RosterEntry)
roster_at total bytes = do
  n ← u16_at total 0 65535 bytes
  entry_list_at total 0 n.0 n.1
