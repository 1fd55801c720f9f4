-- The parts of messages as bytes: the one spelling of each, and which have one.
use Rattle.std.specs.Prelude.{◌≡◌, ◌<◌, ◌≤◌, ◌+◌, ℕ, Bool, true, not, ◌&&◌, ◌||◌, nat_eq, nat_lt, List, [], ◌++◌, length}
use Rattle.std.specs.List.{flat_map}
use Rattle.tm_data.specs.declared.transaction.Writer.{Writer}
use Rattle.tm_data.specs.declared.transaction.Stamp.{Stamp}
use Rattle.tm_data.specs.declared.transaction.Txn.{Txn}
use Rattle.tm_data.specs.declared.log.Group.{Group}
use Rattle.tm_base.specs.declared.message.Node.{Node}
use Rattle.tm_base.specs.declared.message.Node.TheVariants.{Master, LogStore, PageStore, LockManager, Replica}
use Rattle.tm_base.specs.declared.message.PageStamp.{PageStamp}
use Rattle.tm_base.specs.declared.message.RosterEntry.{RosterEntry}
use Rattle.tm_base.specs.declared.message.Tag.{Tag}
use Rattle.tm_base.specs.declared.message.WriterState.{WriterState}
use Rattle.tm_base.specs.declared.message.WriterState.TheVariants as told
use Rattle.wire_fields.specs.Spelling.{u8_bytes, u16_bytes, u32_bytes, u64_bytes, key_bytes, IsWithin, IsKey, AreInTurn}
use Rattle.key_fences.specs.Fences.{key_less}
use Rattle.page_image.specs.Spelling.{txn_bytes, IsTxn}
use Rattle.log_record.specs.Spelling.{group_bytes, IsGroup}

-- ---- nodes

-- The kinds of node: master, log store, page store, lock manager, replica.
abbrev pub node_kind : Node → ℕ
node_kind (Master number) = 1
node_kind (LogStore number) = 2
node_kind (PageStore number) = 3
node_kind LockManager = 4
node_kind (Replica number) = 5

-- There is one lock manager.
abbrev pub node_number : Node → ℕ
node_number (Master number) = number
node_number (LogStore number) = number
node_number (PageStore number) = number
node_number LockManager = 1
node_number (Replica number) = number

-- A node: its kind and its number.
abbrev pub node_bytes : Node → List ℕ
node_bytes node = u8_bytes (node_kind node) ++ u8_bytes (node_number node)

-- Nodes are numbered from 1.
abbrev pub IsNode : Node → Type 0
IsNode node = IsWithin 1 255 (node_number node)

-- ---- numbers

abbrev pub IsWriter : Writer → Type 0
IsWriter writer = IsWithin 1 4294967295 writer.0

-- A number or a page of a message has no bound but its width.
abbrev pub IsNumber : ℕ → Type 0
IsNumber number = IsWithin 0 4294967295 number

abbrev pub IsSmall : ℕ → Type 0
IsSmall number = IsWithin 0 255 number

abbrev pub IsStamp : Stamp → Type 0
IsStamp stamp = IsWithin 0 9223372036854775807 stamp.0

-- ---- lists

-- At most so many items, each of which fits after what came before it.
pub record AreCounted {S A : Type 0} (most : ℕ) (Fits : S → A → Type 0) (left_by : A → S) (before : S) (items : List A) : Type 0 where
  pub count : length items ≤ most
  pub each : AreInTurn Fits left_by before items

-- How many groups in four bytes, and these.
abbrev pub groups_bytes : List Group → List ℕ
groups_bytes groups = u32_bytes (length groups) ++ flat_map group_bytes groups

-- Groups may follow one another in any way.
abbrev pub after_any : Group → Unit {0}
after_any group = tt

abbrev pub IsNextGroup : Unit {0} → Group → Type 0
IsNextGroup before group = IsGroup 1 group

abbrev pub AreGroups : List Group → Type 0
AreGroups groups = AreCounted 4294967295 IsNextGroup after_any tt groups

-- ---- pages with their stamps

abbrev pub page_stamp_bytes : PageStamp → List ℕ
page_stamp_bytes p = u32_bytes p.page.0 ++ u64_bytes p.stamp.0

-- How many pages in four bytes, and these.
abbrev pub page_stamps_bytes : List PageStamp → List ℕ
page_stamps_bytes pages = u32_bytes (length pages) ++ flat_map page_stamp_bytes pages

-- A page from `least` on.
pub record IsPageStamp (least : ℕ) (p : PageStamp) : Type 0 where
  pub page : IsNumber p.page.0
  pub ascends : least ≤ p.page.0
  pub stamp : IsStamp p.stamp

-- The least page that may follow.
abbrev pub above_page : PageStamp → ℕ
above_page p = p.page.0 + 1

-- Pages ascend strictly.
abbrev pub ArePageStamps : List PageStamp → Type 0
ArePageStamps pages = AreCounted 4294967295 IsPageStamp above_page 0 pages

-- ---- tags

-- A tag: its key and its transaction.
abbrev pub tag_bytes : Tag → List ℕ
tag_bytes t = key_bytes t.key ++ txn_bytes t.txn

-- How many tags in four bytes, and these.
abbrev pub tags_bytes : List Tag → List ℕ
tags_bytes tags = u32_bytes (length tags) ++ flat_map tag_bytes tags

abbrev pub txn_less : Txn → Txn → Bool
txn_less a b = nat_lt a.writer.0 b.writer.0 || (nat_eq a.writer.0 b.writer.0 && nat_lt a.number b.number)

-- Tags are ordered by their keys, then by writer, then by number.
abbrev pub tag_less : Tag → Tag → Bool
tag_less a b = not (key_less b.key a.key) && (key_less a.key b.key || txn_less a.txn b.txn)

pub record IsTag (last t : Tag) : Type 0 where
  pub key : IsKey t.key
  pub txn : IsTxn t.txn
  pub ascends : tag_less last t ≡ true

-- What stands for a tag before the first one: no key is as low as the empty one.
abbrev pub no_tag : Tag
no_tag = record { key = []; txn = record { writer = record { 0 = 0 }; number = 0 } }

abbrev pub last_tag : Tag → Tag
last_tag t = t

-- Tags ascend strictly.
abbrev pub AreTags : List Tag → Type 0
AreTags tags = AreCounted 4294967295 IsTag last_tag no_tag tags

-- ---- rosters

abbrev pub state_number : WriterState → ℕ
state_number told.Live = 0
state_number told.Closed = 1
state_number told.Recovered = 2

-- An entry: the writer, the number of its master, its state, its length, and the stamp of its start.
abbrev pub entry_bytes : RosterEntry → List ℕ
entry_bytes e = u32_bytes e.writer.0 ++ (u8_bytes e.master ++ (u8_bytes (state_number e.state) ++ (u32_bytes e.length ++ u64_bytes e.start.0)))

-- How many entries in two bytes, and these.
abbrev pub roster_bytes : List RosterEntry → List ℕ
roster_bytes entries = u16_bytes (length entries) ++ flat_map entry_bytes entries

-- An entry of a writer above the one before.
pub record IsEntry (after : ℕ) (e : RosterEntry) : Type 0 where
  pub writer : IsWriter e.writer
  pub ascends : after < e.writer.0
  pub master : IsSmall e.master
  pub length : IsNumber e.length
  pub start : IsStamp e.start

abbrev pub writer_of : RosterEntry → ℕ
writer_of e = e.writer.0

-- Writers ascend strictly.
abbrev pub AreEntries : List RosterEntry → Type 0
AreEntries entries = AreCounted 65535 IsEntry writer_of 0 entries
