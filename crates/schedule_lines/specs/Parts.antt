-- A text as words that are parted by one blank.
use Rattle.std.specs.Prelude.{ℕ, ◌==◌, if◌then◌else◌, List, [], ◌∷◌}

-- the byte in front of the first of the words
abbrev pub in_front : ℕ → List (List ℕ) → List (List ℕ)
in_front b [] = (b ∷ []) ∷ []
in_front b (w ∷ ws) = (b ∷ w) ∷ ws

-- the words of a text, of which there is always one, perhaps empty
abbrev pub parted : List ℕ → List (List ℕ)
parted [] = [] ∷ []
parted (b ∷ bs) = if b == 32 then [] ∷ parted bs else in_front b (parted bs)
