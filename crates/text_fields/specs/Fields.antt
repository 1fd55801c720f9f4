-- How the fields of a line of text are spelled. A number is spelled by `decimal`.
use Rattle.std.specs.Prelude.{◌≢◌, ◌<◌, ◌≤◌, List, [], ◌∷◌, ℕ, codes, length, slice_index}
use Rattle.hex.specs.Hex.{encode_lower}

-- no blank is among the bytes
abbrev pub HasNoBlank : List ℕ → Type 0
HasNoBlank bytes = (k : ℕ) → k < length bytes → slice_index bytes k ≢ 32

-- no capital letter, `A` to `Z`, is among the bytes
abbrev pub HasNoCapital : List ℕ → Type 0
HasNoCapital bytes = (k : ℕ) → k < length bytes → 65 ≤ slice_index bytes k → slice_index bytes k ≤ 90 → ⊥

-- Bytes in hexadecimal: two lower-case digits for each, or a dash where there are none.
abbrev pub hex_text : List ℕ → List ℕ
hex_text [] = codes "-"
hex_text (b ∷ bs) = encode_lower (b ∷ bs)
