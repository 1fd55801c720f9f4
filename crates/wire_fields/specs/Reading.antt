-- Reading fields from left to right, with the first fault that is met.
use Rattle.std.specs.Prelude.{◌≡◌, ℕ, zero, suc, ◌-◌, Bool, true, false, List, [], ◌∷◌, length, take, drop, Option, Some, None, Result, Ok, Err, nat_lt, nat_le, nat_eq, ◌==◌, ◌||◌, if◌then◌else◌}
use Rattle.std.specs.Cmp.Lexicographic.{pointwise}
use Rattle.std.specs.Int.{Width, w16, w32, w64, byte_len, from_be_bytes}
use Rattle.wire_fields.specs.Spelling.{writer_of}
use Rattle.wire_fields.specs.declared.error.ReadError.{ReadError}
use Rattle.wire_fields.specs.declared.error.ReadError.TheVariants.{Truncated, Range, Kind, NotCanonical, NoMemory}

-- A value and the bytes after it, or the first fault.
abbrev pub Part : Type 0 → Type 0
Part A = Result (A × List ℕ) ReadError

infixl 10 ◌>>=◌
abbrev pub ◌>>=◌ : {A B : Type 0} → Result A ReadError → (A → Result B ReadError) → Result B ReadError
(Ok x) >>= f = f x
(Err e) >>= f = Err e

-- What a call returned, seen by view, is what reading gives, unless memory ran out.
abbrev pub Fails : {Y : Type 0} → ReadError → Result Y ReadError → Type 0
Fails (Truncated at) read = read ≡ Err (Truncated at)
Fails (Range at) read = read ≡ Err (Range at)
Fails (Kind at) read = read ≡ Err (Kind at)
Fails (NotCanonical at) read = read ≡ Err (NotCanonical at)
Fails NoMemory read = Unit {0}

abbrev pub Gives : {X Y : Type 0} → (X → Y) → Result X ReadError → Result Y ReadError → Type 0
Gives view (Ok x) read = read ≡ Ok (view x)
Gives view (Err e) read = Fails e read

-- where bytes begin that are the last of so many
abbrev pub offset_of : ℕ → List ℕ → ℕ
offset_of total bytes = total - length bytes

-- a number with what follows it, if it is from least to most
abbrev pub ranged : ReadError → ℕ → ℕ → ℕ → List ℕ → Part ℕ
ranged fault least most n rest = if nat_lt n least || nat_lt most n then Err fault else Ok (n, rest)

-- a big-endian number
abbrev pub number_at : Width → ℕ → ℕ → ℕ → List ℕ → Part ℕ
number_at w total least most bytes =
    if nat_lt (length bytes) (byte_len w) then Err (Truncated (offset_of total bytes))
    else ranged (Range (offset_of total bytes)) least most (from_be_bytes w (take (byte_len w) bytes)) (drop (byte_len w) bytes)

unfoldable pub u8_at : ℕ → ℕ → ℕ → List ℕ → Part ℕ
u8_at total least most [] = Err (Truncated (offset_of total []))
u8_at total least most (b ∷ rest) = ranged (Range (offset_of total (b ∷ rest))) least most b rest

unfoldable pub u16_at : ℕ → ℕ → ℕ → List ℕ → Part ℕ
u16_at total least most bytes = number_at w16 total least most bytes

unfoldable pub u32_at : ℕ → ℕ → ℕ → List ℕ → Part ℕ
u32_at total least most bytes = number_at w32 total least most bytes

unfoldable pub u64_at : ℕ → ℕ → ℕ → List ℕ → Part ℕ
u64_at total least most bytes = number_at w64 total least most bytes

-- the number of a kind
unfoldable pub kind_at : ℕ → ℕ → ℕ → List ℕ → Part ℕ
kind_at total least most [] = Err (Truncated (offset_of total []))
kind_at total least most (b ∷ rest) = ranged (Kind (offset_of total (b ∷ rest))) least most b rest

-- nothing stands behind the value
unfoldable pub end_at : ℕ → List ℕ → Result (Unit {0}) ReadError
end_at total [] = Ok tt
end_at total (b ∷ rest) = Err (NotCanonical (offset_of total (b ∷ rest)))

-- so many bytes of the field that begins at `at`
abbrev pub piece : ℕ → ℕ → List ℕ → Part (List ℕ)
piece at n rest = if nat_lt (length rest) n then Err (Truncated at) else Ok (take n rest, drop n rest)

abbrev pub some_piece : ℕ → ℕ → List ℕ → Part (Option (List ℕ))
some_piece at n rest = if nat_lt (length rest) n then Err (Truncated at) else Ok (Some (take n rest), drop n rest)

unfoldable pub key_at : ℕ → List ℕ → Part (List ℕ)
key_at total bytes = do
  n ← u8_at total 1 64 bytes
  piece (offset_of total bytes) n.0 n.1

unfoldable pub fence_at : ℕ → List ℕ → Part (Option (List ℕ))
fence_at total bytes = do
  n ← u8_at total 0 64 bytes
  if n.0 == 0 then Ok (None, n.1) else some_piece (offset_of total bytes) n.0 n.1

-- a value of at most 512 bytes, or none
abbrev pub value_of_length : ℕ → ℕ → List ℕ → Part (Option (List ℕ))
value_of_length at n rest =
    if n == 65535 then Ok (None, rest) else if nat_lt 512 n then Err (Range at) else some_piece at n rest

unfoldable pub value_at : ℕ → List ℕ → Part (Option (List ℕ))
value_at total bytes = do
  n ← u16_at total 0 65535 bytes
  value_of_length (offset_of total bytes) n.0 n.1

-- whether two values, or none, are equal
abbrev pub is_same : Option (List ℕ) → Option (List ℕ) → Bool
is_same None None = true
is_same None (Some b) = false
is_same (Some a) None = false
is_same (Some a) (Some b) = pointwise nat_eq a b

-- a value that is not the same as now
abbrev pub other_than : ℕ → Option (List ℕ) → Option (List ℕ) × List ℕ → Part (Option (Option (List ℕ)))
other_than at now value = if is_same value.0 now then Err (NotCanonical at) else Ok (Some value.0, value.1)

unfoldable pub before_at : ℕ → Option (List ℕ) → List ℕ → Part (Option (Option (List ℕ)))
before_at total now bytes = do
  n ← u16_at total 0 65535 bytes
  if n.0 == 65534 then Ok (None, n.1) else (value_of_length (offset_of total bytes) n.0 n.1 >>= other_than (offset_of total bytes) now)

-- an entry of a vector: its writer is above the one before, and not the own one
unfoldable pub entry_at : ℕ → ℕ → ℕ → List ℕ → Part (ℕ × ℕ)
entry_at total own after bytes = do
  writer ← u32_at total 1 4294967295 bytes
  if nat_le writer.0 after || nat_eq writer.0 own then Err (NotCanonical (offset_of total bytes)) else do
    stamp ← u64_at total 1 9223372036854775807 writer.1
    Ok ((writer.0, stamp.0), stamp.1)

-- so many items in turn, each read after what came before it
unfoldable pub list_at : {S A : Type 0} → (S → List ℕ → Part A) → (A → S) → S → ℕ → List ℕ → Part (List A)
list_at item left_by before zero bytes = Ok ([], bytes)
list_at item left_by before (suc n) bytes = do
  first ← item before bytes
  others ← list_at item left_by (left_by first.0) n first.1
  Ok (first.0 ∷ others.0, others.1)

abbrev pub entries_at : ℕ → ℕ → ℕ → ℕ → List ℕ → Part (List (ℕ × ℕ))
entries_at total own after n bytes = list_at (entry_at total own) writer_of after n bytes

unfoldable pub vector_at : ℕ → ℕ → List ℕ → Part (List (ℕ × ℕ))
vector_at total own bytes = do
  n ← u16_at total 0 65535 bytes
  entries_at total own 0 n.0 n.1
