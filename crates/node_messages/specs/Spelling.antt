-- Messages between nodes as bytes: the one spelling of each, and which have one.
use Rattle.std.specs.Prelude.{ℕ, List, ◌++◌, length, Option, Some, None}
use Rattle.tm_data.specs.declared.transaction.Writer.{Writer}
use Rattle.tm_data.specs.declared.transaction.Page.{Page}
use Rattle.tm_data.specs.declared.transaction.Stamp.{Stamp}
use Rattle.tm_data.specs.declared.vector.VectorEntry.{VectorEntry}
use Rattle.tm_base.specs.declared.message.Message.{Message}
use Rattle.tm_base.specs.declared.message.Note.{Note}
use Rattle.tm_base.specs.declared.message.Note.TheVariants.{Register, Registered, Append, Ack, Gap, Sealed, Stable, Fetch, Groups, Seal, SealedAt, Close, Closed, Takeover, Taken, Undone, Recovered, Request, RequestFresh, Recall, Grant, FreshIs, Release, Released, ReadPage, PageIs, Missing, Ask, Fate, Roster, Want}
use Rattle.tm_base.specs.declared.message.Tag.{Tag}
use Rattle.wire_fields.specs.Spelling.{u8_bytes, u32_bytes, u64_bytes, IsWithin}
use Rattle.page_image.specs.Spelling.{txn_bytes, IsTxn, image_bytes, IsImage}
use Rattle.log_record.specs.Spelling.{flag_of, learnt_bytes, IsLearnt, group_bytes, IsGroup}
use Rattle.message_parts.specs.Spelling.{node_bytes, IsNode, IsWriter, IsNumber, IsSmall, IsStamp, groups_bytes, AreGroups, page_stamps_bytes, ArePageStamps, tags_bytes, AreTags, roster_bytes, AreEntries}

-- ---- numbers

-- A page or a writer that may be wanting, as a number that is 0 where it is.
abbrev pub page_number : Option Page → ℕ
page_number None = 0
page_number (Some page) = page.0

abbrev pub IsSomePage : Option Page → Type 0
IsSomePage None = Unit {0}
IsSomePage (Some page) = IsWithin 1 4294967295 page.0

abbrev pub writer_number : Option Writer → ℕ
writer_number None = 0
writer_number (Some writer) = writer.0

abbrev pub IsSomeWriter : Option Writer → Type 0
IsSomeWriter None = Unit {0}
IsSomeWriter (Some writer) = IsWriter writer

-- ---- bodies of one shape

-- A writer and a number.
abbrev pub pair_bytes : Writer → ℕ → List ℕ
pair_bytes writer number = u32_bytes writer.0 ++ u32_bytes number

abbrev pub IsPair : Writer → ℕ → Type 0
IsPair writer number = IsWriter writer × IsNumber number

-- A writer, the length of its log, and a log store that has it.
abbrev pub end_bytes : Writer → ℕ → ℕ → List ℕ
end_bytes writer length store = u32_bytes writer.0 ++ (u32_bytes length ++ u8_bytes store)

abbrev pub IsEnd : Writer → ℕ → ℕ → Type 0
IsEnd writer length store = IsWriter writer × IsNumber length × IsSmall store

-- A writer, a page and an epoch.
abbrev pub lease_bytes : Writer → Page → ℕ → List ℕ
lease_bytes writer page epoch = u32_bytes writer.0 ++ (u32_bytes page.0 ++ u32_bytes epoch)

abbrev pub IsLease : Writer → Page → ℕ → Type 0
IsLease writer page epoch = IsWriter writer × IsNumber page.0 × IsNumber epoch

-- What a lease hands on: the page's stamp, tags and vector.
abbrev pub left_bytes : Stamp → List Tag → List VectorEntry → List ℕ
left_bytes stamp tags vector = u64_bytes stamp.0 ++ (tags_bytes tags ++ learnt_bytes vector)

abbrev pub AreLeft : Stamp → List Tag → List VectorEntry → Type 0
AreLeft stamp tags vector = IsStamp stamp × AreTags tags × IsLearnt 0 vector

-- ---- messages

abbrev pub kind_of : Note → ℕ
kind_of (Register boot) = 1
kind_of (Registered boot writer) = 2
kind_of (Append group) = 3
kind_of (Ack writer seq) = 4
kind_of (Gap writer next) = 5
kind_of (Sealed writer length) = 6
kind_of (Stable writer seq) = 7
kind_of (Fetch writer first) = 8
kind_of (Groups writer groups) = 9
kind_of (Seal writer) = 10
kind_of (SealedAt writer length) = 11
kind_of (Close writer length store) = 12
kind_of (Closed writer length store) = 13
kind_of (Takeover writer part rest pages vector) = 14
kind_of (Taken writer part) = 15
kind_of (Undone writer recoverer vector) = 16
kind_of (Recovered writer vector) = 17
kind_of (Request writer page) = 18
kind_of (RequestFresh writer nth) = 19
kind_of (Recall writer page epoch) = 20
kind_of (Grant writer page epoch stamp tags vector) = 21
kind_of (FreshIs writer nth page) = 22
kind_of (Release writer page epoch stamp tags vector) = 23
kind_of (Released writer page epoch) = 24
kind_of (ReadPage page) = 25
kind_of (PageIs image) = 26
kind_of (Missing page stamp) = 27
kind_of (Ask txn master) = 28
kind_of (Fate txn ended vector) = 29
kind_of (Roster entries) = 30
kind_of (Want writer) = 31

-- What stands behind the kind.
abbrev pub body_bytes : Note → List ℕ
body_bytes (Register boot) = u32_bytes boot
body_bytes (Registered boot writer) = u32_bytes boot ++ u32_bytes writer.0
body_bytes (Append group) = group_bytes group
body_bytes (Ack writer seq) = pair_bytes writer seq
body_bytes (Gap writer next) = pair_bytes writer next
body_bytes (Sealed writer length) = pair_bytes writer length
body_bytes (Stable writer seq) = pair_bytes writer seq
body_bytes (Fetch writer first) = pair_bytes writer first
body_bytes (Groups writer groups) = u32_bytes writer.0 ++ groups_bytes groups
body_bytes (Seal writer) = u32_bytes writer.0
body_bytes (SealedAt writer length) = pair_bytes writer length
body_bytes (Close writer length store) = end_bytes writer length store
body_bytes (Closed writer length store) = end_bytes writer length store
body_bytes (Takeover writer part rest pages vector) = pair_bytes writer part ++ (u8_bytes (flag_of rest) ++ (page_stamps_bytes pages ++ learnt_bytes vector))
body_bytes (Taken writer part) = pair_bytes writer part
body_bytes (Undone writer recoverer vector) = u32_bytes writer.0 ++ (u32_bytes recoverer.0 ++ learnt_bytes vector)
body_bytes (Recovered writer vector) = u32_bytes writer.0 ++ learnt_bytes vector
body_bytes (Request writer page) = pair_bytes writer page.0
body_bytes (RequestFresh writer nth) = pair_bytes writer nth
body_bytes (Recall writer page epoch) = lease_bytes writer page epoch
body_bytes (Grant writer page epoch stamp tags vector) = lease_bytes writer page epoch ++ left_bytes stamp tags vector
body_bytes (FreshIs writer nth page) = pair_bytes writer nth ++ u32_bytes (page_number page)
body_bytes (Release writer page epoch stamp tags vector) = lease_bytes writer page epoch ++ left_bytes stamp tags vector
body_bytes (Released writer page epoch) = lease_bytes writer page epoch
body_bytes (ReadPage page) = u32_bytes page.0
body_bytes (PageIs image) = image_bytes image
body_bytes (Missing page stamp) = u32_bytes page.0 ++ u64_bytes stamp.0
body_bytes (Ask txn master) = txn_bytes txn ++ u8_bytes master
body_bytes (Fate txn ended vector) = txn_bytes txn ++ (u8_bytes (flag_of ended) ++ learnt_bytes vector)
body_bytes (Roster entries) = roster_bytes entries
body_bytes (Want writer) = u32_bytes (writer_number writer)

-- Which bodies have a spelling.
abbrev pub IsSound : Note → Type 0
IsSound (Register boot) = IsNumber boot
IsSound (Registered boot writer) = IsNumber boot × IsWriter writer
IsSound (Append group) = IsGroup 1 group
IsSound (Ack writer seq) = IsPair writer seq
IsSound (Gap writer next) = IsPair writer next
IsSound (Sealed writer length) = IsPair writer length
IsSound (Stable writer seq) = IsPair writer seq
IsSound (Fetch writer first) = IsPair writer first
IsSound (Groups writer groups) = IsWriter writer × AreGroups groups
IsSound (Seal writer) = IsWriter writer
IsSound (SealedAt writer length) = IsPair writer length
IsSound (Close writer length store) = IsEnd writer length store
IsSound (Closed writer length store) = IsEnd writer length store
IsSound (Takeover writer part rest pages vector) = IsPair writer part × ArePageStamps pages × IsLearnt 0 vector
IsSound (Taken writer part) = IsPair writer part
IsSound (Undone writer recoverer vector) = IsWriter writer × IsWriter recoverer × IsLearnt 0 vector
IsSound (Recovered writer vector) = IsWriter writer × IsLearnt 0 vector
IsSound (Request writer page) = IsPair writer page.0
IsSound (RequestFresh writer nth) = IsPair writer nth
IsSound (Recall writer page epoch) = IsLease writer page epoch
IsSound (Grant writer page epoch stamp tags vector) = IsLease writer page epoch × AreLeft stamp tags vector
IsSound (FreshIs writer nth page) = IsPair writer nth × IsSomePage page
IsSound (Release writer page epoch stamp tags vector) = IsLease writer page epoch × AreLeft stamp tags vector
IsSound (Released writer page epoch) = IsLease writer page epoch
IsSound (ReadPage page) = IsNumber page.0
IsSound (PageIs image) = IsImage image
IsSound (Missing page stamp) = IsNumber page.0 × IsStamp stamp
IsSound (Ask txn master) = IsTxn txn × IsSmall master
IsSound (Fate txn ended vector) = IsTxn txn × IsLearnt 0 vector
IsSound (Roster entries) = AreEntries entries
IsSound (Want writer) = IsSomeWriter writer

-- A message: the sender, the receiver, the stamp, and the kind and the body of what it says.
abbrev pub message_bytes : Message → List ℕ
message_bytes m = node_bytes m.from ++ (node_bytes m.to ++ (u64_bytes m.stamp.0 ++ (u8_bytes (kind_of m.note) ++ body_bytes m.note)))

pub record IsMessage (m : Message) : Type 0 where
  pub from : IsNode m.from
  pub to : IsNode m.to
  pub stamp : IsStamp m.stamp
  pub note : IsSound m.note
