-- What the bytes of a journal's file say.
use Rattle.std.specs.Prelude.{◌≡◌, ◌⊎◌, ℕ, zero, suc, ◌+◌, ◌-◌, Bool, cond, ◌&&◌, nat_eq, nat_le, nat_lt, List, [], ◌∷◌, ◌++◌, length, take, drop, Result}
use Rattle.std.specs.Int.{w32, to_be_bytes, from_be_bytes}
use Rattle.std.specs.declared.result.Result.TheVariants.{Ok, Err}

-- ---- records

-- the most bytes of a body: 16 MiB
abbrev pub max_body : ℕ
max_body = 16777216

-- a record: an open gate, the body's length in four bytes, the high byte first, and the body
abbrev pub record_of : List ℕ → List ℕ
record_of body = 1 ∷ (to_be_bytes w32 (length body) ++ body)

-- ---- what stands behind an open gate

-- the length that it tells
abbrev pub length_in : List ℕ → ℕ
length_in after = from_be_bytes w32 (take 4 after)

-- the body is no longer than the most, and it and a gate behind it are there
abbrev pub is_whole : List ℕ → Bool
is_whole after = nat_le (length_in after) max_body && nat_lt (4 + length_in after) (length after)

abbrev pub body_in : List ℕ → List ℕ
body_in after = take (length_in after) (drop 4 after)

-- ---- the reading of a file

abbrev pub with_body : List ℕ → Result (List (List ℕ)) ℕ → Result (List (List ℕ)) ℕ
with_body body (Ok bodies) = Ok (body ∷ bodies)
with_body body (Err at) = Err at

-- What a file says from an offset on, so many bytes before its next gate: the bodies of the records up to the end gate,
-- which is the first byte that isn't 1 in a gate's place, or the offset of an open gate whose record isn't whole.
abbrev pub reading : ℕ → ℕ → List ℕ → Result (List (List ℕ)) ℕ
reading at skip [] = Err at
reading at (suc skip) (byte ∷ after) = reading (suc at) skip after
reading at zero (gate ∷ after) =
    cond (nat_eq gate 1) (cond (is_whole after) (with_body (body_in after) (reading (suc at) (4 + length_in after) after)) (Err at)) (Ok [])

-- What a file opens to: the bodies of its records, or where it is damaged. A file of at most one byte is a journal that was
-- never begun.
abbrev pub opened : List ℕ → Result (List (List ℕ)) ℕ
opened file = cond (nat_le (length file) 1) (Ok []) (reading 0 0 file)

abbrev pub bodies_of : Result (List (List ℕ)) ℕ → List (List ℕ)
bodies_of (Ok bodies) = bodies
bodies_of (Err at) = []

-- the bodies of the records of a file
abbrev pub bodies_in : List ℕ → List (List ℕ)
bodies_in file = bodies_of (opened file)

-- a file opens to these bodies, or to these and one more
abbrev pub IsBeforeOrAfter : List (List ℕ) → List ℕ → List ℕ → Type 0
IsBeforeOrAfter bodies body file = (opened file ≡ Ok bodies) ⊎ (opened file ≡ Ok (bodies ++ body ∷ []))

-- A file after it was opened, of these bodies: what follows the end gate is cut, and a journal that was never begun has an
-- end gate of 0.
abbrev pub kept : List ℕ → ℕ → List ℕ
kept file end = cond (nat_le (length file) 1) (0 ∷ []) (take (end + 1) file)

-- a file with one more record, in place of its end gate, and a new one behind it
abbrev pub with_record : List ℕ → List ℕ → List ℕ
with_record file body = take (length file - 1) file ++ (record_of body ++ 0 ∷ [])
