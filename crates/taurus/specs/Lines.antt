-- The lines of a schedule, without their line feeds, and the one spelling of each.
use Rattle.std.specs.Prelude.{◌≡◌, ℕ, ◌<◌, ◌≤◌, ◌^◌, List, ◌∷◌, ◌++◌, codes, decimal, length}
use Rattle.hex.specs.Hex.{IsBytes}
use Rattle.net_world.specs.declared.step.PlainStep.{PlainStep}
use Rattle.net_world.specs.declared.step.PlainStep.TheVariants.{Begin, Get, Put, Commit, Deliver}
use Rattle.text_fields.specs.Fields.{hex_text}

-- the first line
abbrev pub first_line : List ℕ
first_line = codes "plain"

-- Each other line is a step: its words are parted by one blank, numbers are decimal, and keys and values are
-- lower-case hexadecimal, `-` where they are empty.
abbrev pub step_line : PlainStep → List ℕ
step_line Begin = codes "do m1 1 begin"
step_line (Get table key) = codes "do m1 1 get " ++ (decimal table ++ (codes " " ++ hex_text key))
step_line (Put table key value) =
    codes "do m1 1 put " ++ (decimal table ++ (codes " " ++ (hex_text key ++ (codes " " ++ hex_text value))))
step_line Commit = codes "do m1 1 commit"
step_line (Deliver number) = codes "deliver " ++ decimal number

-- A key that a line names has 1 to 1,024 bytes, and a value has 0 to 1,024.
abbrev pub IsKey : List ℕ → Type 0
IsKey key = IsBytes key × (1 ≤ length key) × (length key ≤ 1024)

abbrev pub IsValue : List ℕ → Type 0
IsValue value = IsBytes value × (length value ≤ 1024)

abbrev pub IsRow : List ℕ → List ℕ → Type 0
IsRow key value = IsKey key × IsValue value

-- The numbers that a line names: tables from 0 to 65,535, and messages from 1 to 2^32 - 1.
abbrev pub IsFit : PlainStep → Type 0
IsFit (Get table key) = (table < 2 ^ 16) × IsKey key
IsFit (Put table key value) = (table < 2 ^ 16) × IsRow key value
IsFit (Deliver number) = (1 ≤ number) × (number < 2 ^ 32)
IsFit _ = Unit {0}
