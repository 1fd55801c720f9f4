-- Fields as bytes: the one spelling of each, and which values have one.
use Rattle.std.specs.Prelude.{◌≢◌, ℕ, ◌<◌, ◌≤◌, List, [], ◌∷◌, ◌++◌, length, Option, Some, None}
use Rattle.std.specs.List.{flat_map}
use Rattle.std.specs.Int.{w16, w32, w64, to_be_bytes}

-- Numbers are big-endian.
abbrev pub u8_bytes : ℕ → List ℕ
u8_bytes n = n ∷ []

unfoldable pub u16_bytes : ℕ → List ℕ
u16_bytes n = to_be_bytes w16 n

unfoldable pub u32_bytes : ℕ → List ℕ
u32_bytes n = to_be_bytes w32 n

unfoldable pub u64_bytes : ℕ → List ℕ
u64_bytes n = to_be_bytes w64 n

-- A number from least to most.
pub record IsWithin (least most n : ℕ) : Type 0 where
  pub reaches : least ≤ n
  pub stays : n ≤ most

-- Items in turn, each of which fits after what came before it: `left_by` says what an item leaves.
abbrev pub AreInTurn : {S A : Type 0} → (S → A → Type 0) → (A → S) → S → List A → Type 0
AreInTurn Fits left_by before [] = Unit {0}
AreInTurn Fits left_by before (item ∷ items) = Fits before item × AreInTurn Fits left_by (left_by item) items

-- A key: its length in one byte, and its bytes.
abbrev pub key_bytes : List ℕ → List ℕ
key_bytes key = u8_bytes (length key) ++ key

abbrev pub IsKey : List ℕ → Type 0
IsKey key = IsWithin 1 64 (length key)

-- A fence: a key, or the length 0 for the open end.
abbrev pub fence_bytes : Option (List ℕ) → List ℕ
fence_bytes None = u8_bytes 0
fence_bytes (Some key) = key_bytes key

abbrev pub IsFence : Option (List ℕ) → Type 0
IsFence None = Unit {0}
IsFence (Some key) = IsKey key

-- A value or none: the length in two bytes and the bytes, or ffff for none.
abbrev pub value_bytes : Option (List ℕ) → List ℕ
value_bytes None = u16_bytes 65535
value_bytes (Some value) = u16_bytes (length value) ++ value

abbrev pub IsValue : Option (List ℕ) → Type 0
IsValue None = Unit {0}
IsValue (Some value) = length value ≤ 512

-- What was there before: a value or none, or fffe for the same as now, which has no other spelling.
abbrev pub before_bytes : Option (Option (List ℕ)) → List ℕ
before_bytes None = u16_bytes 65534
before_bytes (Some before) = value_bytes before

abbrev pub IsBefore : Option (List ℕ) → Option (Option (List ℕ)) → Type 0
IsBefore now None = Unit {0}
IsBefore now (Some before) = IsValue before × (before ≢ now)

-- A vector: how many entries in two bytes, then each one's writer and stamp.
abbrev pub entry_bytes : ℕ × ℕ → List ℕ
entry_bytes entry = u32_bytes entry.0 ++ u64_bytes entry.1

abbrev pub vector_bytes : List (ℕ × ℕ) → List ℕ
vector_bytes entries = u16_bytes (length entries) ++ flat_map entry_bytes entries

-- An entry whose writer is above the one before and not the own one; its stamp is from 1 to 2^63 - 1.
pub record IsEntry (own after : ℕ) (entry : ℕ × ℕ) : Type 0 where
  pub writer : IsWithin 1 4294967295 entry.0
  pub ascends : after < entry.0
  pub foreign : entry.0 ≢ own
  pub stamp : IsWithin 1 9223372036854775807 entry.1

abbrev pub writer_of : ℕ × ℕ → ℕ
writer_of entry = entry.0

pub record IsVector (own : ℕ) (entries : List (ℕ × ℕ)) : Type 0 where
  pub count : length entries ≤ 65535
  pub each : AreInTurn (IsEntry own) writer_of 0 entries
