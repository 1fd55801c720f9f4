-- Rows and images of pages as bytes: the one spelling of each, and which have one.
use Rattle.std.specs.Prelude.{◌≡◌, ◌≤◌, ℕ, Bool, true, ◌&&◌, nat_eq, if◌then◌else◌, List, [], ◌++◌, length, Option, Some, None}
use Rattle.std.specs.List.{flat_map}
use Rattle.key_fences.specs.Fences.{is_above, is_within, leave_room}
use Rattle.tm_data.specs.declared.transaction.Txn.{Txn}
use Rattle.tm_data.specs.declared.row.Row.{Row}
use Rattle.tm_data.specs.declared.row.Before.{Before}
use Rattle.tm_data.specs.declared.row.Before.TheVariants.{Same, Was}
use Rattle.tm_data.specs.declared.image.Image.{Image}
use Rattle.tm_data.specs.declared.image.Child.{Child}
use Rattle.tm_data.specs.declared.image.Body.{Body}
use Rattle.tm_data.specs.declared.image.Body.TheVariants.{Blank, Leaf, Inner}
use Rattle.wire_fields.specs.Spelling.{u8_bytes, u16_bytes, u32_bytes, u64_bytes, key_bytes, fence_bytes, value_bytes, before_bytes, IsWithin, IsKey, IsFence, IsValue, IsBefore, AreInTurn}

-- ---- rows

-- A transaction: its writer and its number there.
abbrev pub txn_bytes : Txn → List ℕ
txn_bytes t = u32_bytes t.writer.0 ++ u32_bytes t.number

pub record IsTxn (t : Txn) : Type 0 where
  pub writer : IsWithin 1 4294967295 t.writer.0
  pub number : IsWithin 1 4294967295 t.number

-- What was there before, none for the same as now.
abbrev pub earlier : Before → Option (Option (List ℕ))
earlier Same = None
earlier (Was value) = Some value

-- A row: its key, transaction, value and the value before.
abbrev pub row_bytes : Row → List ℕ
row_bytes r = key_bytes r.key ++ (txn_bytes r.txn ++ (value_bytes r.now ++ before_bytes (earlier r.before)))

pub record IsRow (r : Row) : Type 0 where
  pub key : IsKey r.key
  pub txn : IsTxn r.txn
  pub now : IsValue r.now
  pub before : IsBefore r.now (earlier r.before)

-- ---- keys in order

-- A key may stand within the fences, and after the last key.
abbrev pub stands : Option (List ℕ) → Option (List ℕ) → Option (List ℕ) → List ℕ → Bool
stands low high last key = is_within low high key && is_above last key

pub record IsPlaced (low high last : Option (List ℕ)) (key : List ℕ) : Type 0 where
  pub is_key : IsKey key
  pub placed : stands low high last key ≡ true

pub record IsRowIn (low high last : Option (List ℕ)) (r : Row) : Type 0 where
  pub placed : stands low high last r.key ≡ true
  pub sound : IsRow r

abbrev pub key_of_row : Row → Option (List ℕ)
key_of_row r = Some r.key

-- ---- children

-- An entry of an inner page: its key and its page.
abbrev pub child_bytes : Child → List ℕ
child_bytes c = key_bytes c.key ++ u32_bytes c.page.0

pub record IsChildIn (low high last : Option (List ℕ)) (c : Child) : Type 0 where
  pub key : IsPlaced low high last c.key
  pub page : IsWithin 0 4294967295 c.page.0

abbrev pub key_of_child : Child → Option (List ℕ)
key_of_child c = Some c.key

-- ---- bodies

-- What leaves and inner pages begin with.
pub record Head : Type 0 where
  pub table : ℕ
  pub level : ℕ
  pub low : Option (List ℕ)
  pub high : Option (List ℕ)

abbrev pub head_bytes : Head → List ℕ
head_bytes h = u16_bytes h.table ++ (u8_bytes h.level ++ (fence_bytes h.low ++ fence_bytes h.high))

pub record IsHead (least most : ℕ) (h : Head) : Type 0 where
  pub table : IsWithin 0 65535 h.table
  pub level : IsWithin least most h.level
  pub low : IsFence h.low
  pub high : IsFence h.high
  pub order : leave_room h.low h.high ≡ true

abbrev pub kind_of : Body → ℕ
kind_of Blank = 0
kind_of (Leaf table low high rows) = 1
kind_of (Inner table level low high first entries) = 2

-- A leaf: the head with level 0, the number of rows, and these.
abbrev pub rows_bytes : List Row → List ℕ
rows_bytes rows = u16_bytes (length rows) ++ flat_map row_bytes rows

pub record AreRows (low high : Option (List ℕ)) (rows : List Row) : Type 0 where
  pub count : length rows ≤ 65535
  pub each : AreInTurn (IsRowIn low high) key_of_row None rows

-- An inner page: the head, the number of entries, the first child, and the entries.
abbrev pub children_bytes : List Child → List ℕ
children_bytes entries = flat_map child_bytes entries

pub record AreChildren (low high : Option (List ℕ)) (entries : List Child) : Type 0 where
  pub count : length entries ≤ 65535
  pub each : AreInTurn (IsChildIn low high) key_of_child None entries

abbrev pub body_bytes : Body → List ℕ
body_bytes Blank = []
body_bytes (Leaf table low high rows) = head_bytes (record { table = table; level = 0; low = low; high = high }) ++ rows_bytes rows
body_bytes (Inner table level low high first entries) =
    head_bytes (record { table = table; level = level; low = low; high = high }) ++ (u16_bytes (length entries) ++ (u32_bytes first.0 ++ children_bytes entries))

-- A leaf has level 0 and an inner page one from 1 to 5.
abbrev pub IsBody : Body → Type 0
IsBody Blank = Unit {0}
IsBody (Leaf table low high rows) = IsHead 0 0 (record { table = table; level = 0; low = low; high = high }) × AreRows low high rows
IsBody (Inner table level low high first entries) =
    IsHead 1 5 (record { table = table; level = level; low = low; high = high }) × IsWithin 0 4294967295 first.0 × AreChildren low high entries

-- ---- images

-- An image: the kind of its body, its page and stamp, and the body.
abbrev pub image_bytes : Image → List ℕ
image_bytes i = u8_bytes (kind_of i.body) ++ (u32_bytes i.page.0 ++ (u64_bytes i.stamp.0 ++ body_bytes i.body))

-- A blank page has stamp 0, any other one up to 2^63 - 1.
abbrev pub last_stamp : ℕ → ℕ
last_stamp kind = if nat_eq kind 0 then 0 else 9223372036854775807

pub record IsImage (i : Image) : Type 0 where
  pub page : IsWithin 1 4294967295 i.page.0
  pub stamp : IsWithin 0 (last_stamp (kind_of i.body)) i.stamp.0
  pub body : IsBody i.body
  pub size : length (image_bytes i) ≤ 8192
