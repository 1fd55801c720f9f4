-- Reading messages from left to right, with the first fault that is met.
use Rattle.std.specs.Prelude.{ℕ, List, length, Option, Some, None, Result, Ok, nat_le, nat_eq, if◌then◌else◌}
use Rattle.tm_data.specs.declared.transaction.Writer.{Writer}
use Rattle.tm_data.specs.declared.transaction.Page.{Page}
use Rattle.tm_data.specs.declared.transaction.Stamp.{Stamp}
use Rattle.tm_data.specs.declared.vector.VectorEntry.{VectorEntry}
use Rattle.tm_base.specs.declared.message.Message.{Message}
use Rattle.tm_base.specs.declared.message.Note.{Note}
use Rattle.tm_base.specs.declared.message.Note.TheVariants.{Register, Registered, Append, Ack, Gap, Sealed, Stable, Fetch, Groups, Seal, SealedAt, Close, Closed, Takeover, Taken, Undone, Recovered, Request, RequestFresh, Recall, Grant, FreshIs, Release, Released, ReadPage, PageIs, Missing, Ask, Fate, Roster, Want}
use Rattle.tm_base.specs.declared.message.Tag.{Tag}
use Rattle.wire_fields.specs.declared.error.ReadError.{ReadError}
use Rattle.wire_fields.specs.Reading.{Part, ◌>>=◌, u8_at, u32_at, kind_at, end_at}
use Rattle.page_image.specs.Reading.{txn_at, image_at}
use Rattle.log_record.specs.Reading.{learnt_at, group_at}
use Rattle.node_messages.specs.declared.shape.Lease.{Lease}
use Rattle.message_parts.specs.Reading.{writer_at, page_at, stamp_at, flag_at, node_at, groups_at, page_stamps_at, tags_at, roster_at}

-- ---- bodies of one shape, by their kind

abbrev pub pair_note : ℕ → Writer → ℕ → Note
pair_note kind writer number =
    if nat_eq kind 4 then Ack writer number else if nat_eq kind 5 then Gap writer number else if nat_eq kind 6 then Sealed writer number else if nat_eq kind 7 then Stable writer number else if nat_eq kind 8 then Fetch writer number else if nat_eq kind 11 then SealedAt writer number else if nat_eq kind 15 then Taken writer number else if nat_eq kind 18 then Request writer (record { 0 = number }) else RequestFresh writer number

unfoldable pub pair_at : ℕ → ℕ → List ℕ → Part Note
pair_at total kind bytes = do
  writer ← writer_at total bytes
  number ← u32_at total 0 4294967295 writer.1
  Ok (pair_note kind writer.0 number.0, number.1)

abbrev pub ending_note : ℕ → Writer → ℕ → ℕ → Note
ending_note kind writer length store = if nat_eq kind 12 then Close writer length store else Closed writer length store

unfoldable pub ending_at : ℕ → ℕ → List ℕ → Part Note
ending_at total kind bytes = do
  writer ← writer_at total bytes
  length ← u32_at total 0 4294967295 writer.1
  store ← u8_at total 0 255 length.1
  Ok (ending_note kind writer.0 length.0 store.0, store.1)

-- a writer, a page and an epoch
unfoldable pub lease_at : ℕ → List ℕ → Part Lease
lease_at total bytes = do
  writer ← writer_at total bytes
  page ← page_at total writer.1
  epoch ← u32_at total 0 4294967295 page.1
  Ok (record { writer = writer.0; page = page.0; epoch = epoch.0 }, epoch.1)

abbrev pub recall_note : ℕ → Lease → Note
recall_note kind l = if nat_eq kind 20 then Recall l.writer l.page l.epoch else Released l.writer l.page l.epoch

unfoldable pub recall_at : ℕ → ℕ → List ℕ → Part Note
recall_at total kind bytes = do
  lease ← lease_at total bytes
  Ok (recall_note kind lease.0, lease.1)

abbrev pub grant_note : ℕ → Lease → Stamp → List Tag → List VectorEntry → Note
grant_note kind l stamp tags vector = if nat_eq kind 21 then Grant l.writer l.page l.epoch stamp tags vector else Release l.writer l.page l.epoch stamp tags vector

unfoldable pub grant_at : ℕ → ℕ → List ℕ → Part Note
grant_at total kind bytes = do
  lease ← lease_at total bytes
  stamp ← stamp_at total lease.1
  tags ← tags_at total stamp.1
  vector ← learnt_at total 0 tags.1
  Ok (grant_note kind lease.0 stamp.0 tags.0 vector.0, vector.1)

-- ---- kinds 1 to 11: writer numbers and logs

unfoldable pub register_at : ℕ → List ℕ → Part Note
register_at total bytes = do
  boot ← u32_at total 0 4294967295 bytes
  Ok (Register boot.0, boot.1)

unfoldable pub registered_at : ℕ → List ℕ → Part Note
registered_at total bytes = do
  boot ← u32_at total 0 4294967295 bytes
  writer ← writer_at total boot.1
  Ok (Registered boot.0 writer.0, writer.1)

unfoldable pub append_at : ℕ → List ℕ → Part Note
append_at total bytes = do
  group ← group_at total 1 bytes
  Ok (Append group.0, group.1)

unfoldable pub groups_note_at : ℕ → List ℕ → Part Note
groups_note_at total bytes = do
  writer ← writer_at total bytes
  groups ← groups_at total writer.1
  Ok (Groups writer.0 groups.0, groups.1)

unfoldable pub seal_at : ℕ → List ℕ → Part Note
seal_at total bytes = do
  writer ← writer_at total bytes
  Ok (Seal writer.0, writer.1)

unfoldable pub log_note_at : ℕ → ℕ → List ℕ → Part Note
log_note_at total kind bytes =
    if nat_eq kind 1 then register_at total bytes else if nat_eq kind 2 then registered_at total bytes else if nat_eq kind 3 then append_at total bytes else if nat_eq kind 9 then groups_note_at total bytes else if nat_eq kind 10 then seal_at total bytes else pair_at total kind bytes

-- ---- kinds 12 to 17: the ends of logs

unfoldable pub takeover_at : ℕ → List ℕ → Part Note
takeover_at total bytes = do
  writer ← writer_at total bytes
  part ← u32_at total 0 4294967295 writer.1
  rest ← flag_at total part.1
  pages ← page_stamps_at total rest.1
  vector ← learnt_at total 0 pages.1
  Ok (Takeover writer.0 part.0 rest.0 pages.0 vector.0, vector.1)

unfoldable pub undone_at : ℕ → List ℕ → Part Note
undone_at total bytes = do
  writer ← writer_at total bytes
  recoverer ← writer_at total writer.1
  vector ← learnt_at total 0 recoverer.1
  Ok (Undone writer.0 recoverer.0 vector.0, vector.1)

unfoldable pub recovered_at : ℕ → List ℕ → Part Note
recovered_at total bytes = do
  writer ← writer_at total bytes
  vector ← learnt_at total 0 writer.1
  Ok (Recovered writer.0 vector.0, vector.1)

unfoldable pub end_note_at : ℕ → ℕ → List ℕ → Part Note
end_note_at total kind bytes =
    if nat_le kind 13 then ending_at total kind bytes else if nat_eq kind 14 then takeover_at total bytes else if nat_eq kind 15 then pair_at total kind bytes else if nat_eq kind 16 then undone_at total bytes else recovered_at total bytes

-- ---- kinds 18 to 24: leases

abbrev pub some_page : ℕ → Option Page
some_page number = if nat_eq number 0 then None else Some (record { 0 = number })

unfoldable pub fresh_at : ℕ → List ℕ → Part Note
fresh_at total bytes = do
  writer ← writer_at total bytes
  nth ← u32_at total 0 4294967295 writer.1
  page ← u32_at total 0 4294967295 nth.1
  Ok (FreshIs writer.0 nth.0 (some_page page.0), page.1)

unfoldable pub lease_note_at : ℕ → ℕ → List ℕ → Part Note
lease_note_at total kind bytes =
    if nat_le kind 19 then pair_at total kind bytes else if nat_eq kind 20 then recall_at total kind bytes else if nat_eq kind 22 then fresh_at total bytes else if nat_eq kind 24 then recall_at total kind bytes else grant_at total kind bytes

-- ---- kinds 25 to 31: pages, fates and rosters

unfoldable pub read_page_at : ℕ → List ℕ → Part Note
read_page_at total bytes = do
  page ← page_at total bytes
  Ok (ReadPage page.0, page.1)

unfoldable pub page_is_at : ℕ → List ℕ → Part Note
page_is_at total bytes = do
  image ← image_at total bytes
  Ok (PageIs image.0, image.1)

unfoldable pub missing_at : ℕ → List ℕ → Part Note
missing_at total bytes = do
  page ← page_at total bytes
  stamp ← stamp_at total page.1
  Ok (Missing page.0 stamp.0, stamp.1)

unfoldable pub ask_at : ℕ → List ℕ → Part Note
ask_at total bytes = do
  txn ← txn_at total bytes
  master ← u8_at total 0 255 txn.1
  Ok (Ask txn.0 master.0, master.1)

unfoldable pub fate_at : ℕ → List ℕ → Part Note
fate_at total bytes = do
  txn ← txn_at total bytes
  ended ← flag_at total txn.1
  vector ← learnt_at total 0 ended.1
  Ok (Fate txn.0 ended.0 vector.0, vector.1)

unfoldable pub roster_note_at : ℕ → List ℕ → Part Note
roster_note_at total bytes = do
  entries ← roster_at total bytes
  Ok (Roster entries.0, entries.1)

abbrev pub some_writer : ℕ → Option Writer
some_writer number = if nat_eq number 0 then None else Some (record { 0 = number })

unfoldable pub want_at : ℕ → List ℕ → Part Note
want_at total bytes = do
  writer ← u32_at total 0 4294967295 bytes
  Ok (Want (some_writer writer.0), writer.1)

unfoldable pub page_note_at : ℕ → ℕ → List ℕ → Part Note
page_note_at total kind bytes =
    if nat_eq kind 25 then read_page_at total bytes else if nat_eq kind 26 then page_is_at total bytes else if nat_eq kind 27 then missing_at total bytes else if nat_eq kind 28 then ask_at total bytes else if nat_eq kind 29 then fate_at total bytes else if nat_eq kind 30 then roster_note_at total bytes else want_at total bytes

-- ---- messages

-- the body of this kind, 1 to 31
unfoldable pub note_at : ℕ → ℕ → List ℕ → Part Note
note_at total kind bytes =
    if nat_le kind 11 then log_note_at total kind bytes else if nat_le kind 17 then end_note_at total kind bytes else if nat_le kind 24 then lease_note_at total kind bytes else page_note_at total kind bytes

unfoldable pub message_at : ℕ → List ℕ → Part Message
message_at total bytes = do
  from ← node_at total bytes
  to ← node_at total from.1
  stamp ← stamp_at total to.1
  kind ← kind_at total 1 31 stamp.1
  note ← note_at total kind.0 kind.1
  Ok (record { from = from.0; to = to.0; stamp = stamp.0; note = note.0 }, note.1)

-- a message and nothing behind it
unfoldable pub message_of : List ℕ → Result Message ReadError
message_of bytes = do
  message ← message_at (length bytes) bytes
  none ← end_at (length bytes) message.1
  Ok message.0
