-- Vectors of what is known of each writer (Fidge 1988, Mattern 1989).
use Rattle.std.specs.Prelude.{◌<◌, ◌≤◌, List, [], ◌∷◌, ℕ, Bool, true, cond, ◌&&◌, nat_eq, nat_lt, nat_le, max}
use Rattle.tm_data.specs.declared.vector.VectorEntry.{VectorEntry}

-- The writers rise strictly, each above `after`, and no stamp is 0.
abbrev pub AscendsAbove : ℕ → List VectorEntry → Type 0
AscendsAbove after [] = Unit {0}
AscendsAbove after (e ∷ es) = (after < e.writer.0) × (1 ≤ e.stamp.0) × AscendsAbove e.writer.0 es

-- The entries of a vector: writers from 1 on in ascending order, each with a stamp of at least 1.
abbrev pub IsVector : List VectorEntry → Type 0
IsVector es = AscendsAbove 0 es

-- The entry of a writer.
abbrev pub entry : ℕ → ℕ → VectorEntry
entry writer stamp = record { writer = record { 0 = writer }; stamp = record { 0 = stamp } }

-- What a vector says of a writer: the stamp of its entry, 0 where it has none.
abbrev pub stamp_of : List VectorEntry → ℕ → ℕ
stamp_of [] writer = 0
stamp_of (e ∷ es) writer = cond (nat_eq writer e.writer.0) e.stamp.0 (stamp_of es writer)

-- For every writer, `a` has at least the stamp that `b` has.
abbrev pub Covers : List VectorEntry → List VectorEntry → Type 0
Covers a b = (writer : ℕ) → stamp_of b writer ≤ stamp_of a writer

-- The test of it: at the entries of `b`.
abbrev pub covers : List VectorEntry → List VectorEntry → Bool
covers a [] = true
covers a (e ∷ es) = nat_le e.stamp.0 (stamp_of a e.writer.0) && covers a es

-- The greatest stamp of all entries, 0 where there are none.
abbrev pub greatest : List VectorEntry → ℕ
greatest [] = 0
greatest (e ∷ es) = max e.stamp.0 (greatest es)

-- The vector with the entry of one writer raised to at least this stamp.
abbrev pub raised : List VectorEntry → VectorEntry → List VectorEntry
raised [] e = e ∷ []
raised (x ∷ xs) e =
    cond (nat_lt x.writer.0 e.writer.0) (x ∷ raised xs e)
    (cond (nat_eq x.writer.0 e.writer.0) (entry x.writer.0 (max x.stamp.0 e.stamp.0) ∷ xs) (e ∷ x ∷ xs))

-- The join: each entry of `b` raised in `a`, so that each writer has the greater of its two stamps.
abbrev pub joined : List VectorEntry → List VectorEntry → List VectorEntry
joined a [] = a
joined a (e ∷ es) = joined (raised a e) es

-- The vector that says one thing alone, or nothing where the stamp is 0.
abbrev pub single : ℕ → ℕ → List VectorEntry
single writer stamp = cond (nat_eq stamp 0) [] (entry writer stamp ∷ [])
