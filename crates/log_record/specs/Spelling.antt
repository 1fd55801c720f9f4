-- Records and groups of a log as bytes: the one spelling of each, and which have one.
use Rattle.std.specs.Prelude.{◌≡◌, ◌<◌, ◌≤◌, ◌-◌, ◌+◌, ℕ, Bool, true, false, nat_eq, if◌then◌else◌, List, [], ◌++◌, length, map, Option, Some, None}
use Rattle.std.specs.List.{flat_map}
use Rattle.tm_data.specs.declared.vector.VectorEntry.{VectorEntry}
use Rattle.tm_data.specs.declared.log.Record.{Record}
use Rattle.tm_data.specs.declared.log.Record.TheVariants.{RowSet, Cut, Format, NodeAdd, End, Beat}
use Rattle.tm_data.specs.declared.log.Group.{Group}
use Rattle.wire_fields.specs.Spelling.{u8_bytes, u16_bytes, u32_bytes, u64_bytes, key_bytes, vector_bytes, IsWithin, IsKey, IsVector, AreInTurn}
use Rattle.page_image.specs.Spelling.{txn_bytes, IsTxn, row_bytes, IsRow, body_bytes, IsBody, kind_of}
use Rattle.log_record.specs.declared.item.Place.{Place}

-- ---- vectors

abbrev pub pair_of : VectorEntry → ℕ × ℕ
pair_of e = (e.writer.0, e.stamp.0)

abbrev pub entry_of : ℕ × ℕ → VectorEntry
entry_of p = record { writer = record { 0 = p.0 }; stamp = record { 0 = p.1 } }

abbrev pub learnt_bytes : List VectorEntry → List ℕ
learnt_bytes entries = vector_bytes (map pair_of entries)

-- Writers from 1 on in ascending order, none the own one, with stamps from 1 to 2^63 - 1.
abbrev pub IsLearnt : ℕ → List VectorEntry → Type 0
IsLearnt own entries = IsVector own (map pair_of entries)

-- ---- records

abbrev pub number_of : Record → ℕ
number_of (RowSet page prev table r) = 1
number_of (Cut page prev at) = 2
number_of (Format page prev body) = 3
number_of (NodeAdd page prev key child) = 4
number_of (End txn committed) = 5
number_of Beat = 6

-- the page that a record changes and the stamp that this had; none where it changes no page
abbrev pub place_of : Record → Option Place
place_of (RowSet page prev table r) = Some (record { page = page; prev = prev })
place_of (Cut page prev at) = Some (record { page = page; prev = prev })
place_of (Format page prev body) = Some (record { page = page; prev = prev })
place_of (NodeAdd page prev key child) = Some (record { page = page; prev = prev })
place_of (End txn committed) = None
place_of Beat = None

abbrev pub place_bytes : Option Place → List ℕ
place_bytes None = []
place_bytes (Some p) = u32_bytes p.page.0 ++ u64_bytes p.prev.0

abbrev pub flag_of : Bool → ℕ
flag_of true = 1
flag_of false = 0

-- what stands behind the kind and the place
abbrev pub rest_bytes : Record → List ℕ
rest_bytes (RowSet page prev table r) = u16_bytes table ++ row_bytes r
rest_bytes (Cut page prev at) = key_bytes at
rest_bytes (Format page prev body) = u8_bytes (kind_of body) ++ body_bytes body
rest_bytes (NodeAdd page prev key child) = key_bytes key ++ u32_bytes child.0
rest_bytes (End txn committed) = txn_bytes txn ++ u8_bytes (flag_of committed)
rest_bytes Beat = []

-- A record: its kind, the place that it changes, and the rest.
abbrev pub item_bytes : Record → List ℕ
item_bytes item = u8_bytes (number_of item) ++ (place_bytes (place_of item) ++ rest_bytes item)

-- A body of a Format fits into an image, which has twelve bytes of page and stamp besides.
abbrev pub IsSound : Record → Type 0
IsSound (RowSet page prev table r) = IsWithin 0 65535 table × IsRow r
IsSound (Cut page prev at) = IsKey at
IsSound (Format page prev body) = IsBody body × (length (u8_bytes (kind_of body) ++ body_bytes body) + 12 ≤ 8192)
IsSound (NodeAdd page prev key child) = IsKey key × IsWithin 0 4294967295 child.0
IsSound (End txn committed) = IsTxn txn
IsSound Beat = Unit {0}

-- A page above that of the record before, and a stamp below the group's.
pub record IsPlace (stamp last : ℕ) (p : Place) : Type 0 where
  pub page : IsWithin 1 4294967295 p.page.0
  pub ascends : last < p.page.0
  pub prev : IsWithin 0 (stamp - 1) p.prev.0

-- A record that changes no page stands alone.
abbrev pub MayStand : ℕ → Bool → ℕ → Option Place → Type 0
MayStand stamp alone last None = alone ≡ true
MayStand stamp alone last (Some p) = IsPlace stamp last p

pub record IsItem (stamp : ℕ) (alone : Bool) (last : ℕ) (item : Record) : Type 0 where
  pub place : MayStand stamp alone last (place_of item)
  pub sound : IsSound item

-- the page that a record leaves to be passed by the next one's
abbrev pub page_in : Option Place → ℕ
page_in None = 0
page_in (Some p) = p.page.0

abbrev pub page_of : Record → ℕ
page_of item = page_in (place_of item)

-- ---- groups

-- A group: writer, sequence number, stamp, what was learnt, the number of records, and these.
abbrev pub group_bytes : Group → List ℕ
group_bytes g =
    u32_bytes g.writer.0 ++ (u32_bytes g.seq ++ (u64_bytes g.stamp.0 ++ (learnt_bytes g.learnt ++ (u16_bytes (length g.records) ++ flat_map item_bytes g.records))))

-- What was learnt has no entry of the own writer. There are `least` records or more.
pub record IsGroup (least : ℕ) (g : Group) : Type 0 where
  pub writer : IsWithin 1 4294967295 g.writer.0
  pub seq : IsWithin 1 4294967295 g.seq
  pub stamp : IsWithin 1 9223372036854775807 g.stamp.0
  pub learnt : IsLearnt g.writer.0 g.learnt
  pub count : IsWithin least 65535 (length g.records)
  pub each : AreInTurn (IsItem g.stamp.0 (nat_eq (length g.records) 1)) page_of 0 g.records
  pub size : length (group_bytes g) ≤ 65536
