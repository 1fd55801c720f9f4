-- What a clock's owner tells others of what the clock heard.
use Rattle.std.specs.Prelude.{◌≡◌, ℕ, Bool, cond, List, [], ◌∷◌}
use Rattle.tm_data.specs.declared.vector.VectorEntry.{VectorEntry}
use Rattle.tm_data.specs.Vectors.{IsVector, joined}
use Rattle.vs_clock.specs.State.{State, started, heard_scalar, heard_vector, can_tick, ticked, told}

-- What is done at one clock.
pub data Call : Type 0 where
  Ticks : Call
  HearsScalar : (stamp : ℕ) → Call
  HearsVector : (vector : List VectorEntry) → Call
  Tells : Call

abbrev pub tried_tick : State → Bool → State
tried_tick s test = cond test (ticked s) s

abbrev pub called : State → Call → State
called s Ticks = tried_tick s (can_tick s)
called s (HearsScalar stamp) = heard_scalar s stamp
called s (HearsVector vector) = heard_vector s vector
called s Tells = told s

abbrev pub called_all : State → List Call → State
called_all s [] = s
called_all s (call ∷ calls) = called_all (called s call) calls

-- The vectors that were learnt: what each telling told, and at the end what is still to be told.
abbrev pub learnt_then : State → Call → List (List VectorEntry) → List (List VectorEntry)
learnt_then s Tells later = s.untold ∷ later
learnt_then s Ticks later = later
learnt_then s (HearsScalar stamp) later = later
learnt_then s (HearsVector vector) later = later

abbrev pub learnt_vectors : State → List Call → List (List VectorEntry)
learnt_vectors s [] = s.untold ∷ []
learnt_vectors s (call ∷ calls) = learnt_then s call (learnt_vectors (called s call) calls)

abbrev pub joined_all : List (List VectorEntry) → List VectorEntry
joined_all [] = []
joined_all (vector ∷ vectors) = joined vector (joined_all vectors)

abbrev pub HearsVectors : List Call → Type 0
HearsVectors [] = Unit {0}
HearsVectors (HearsVector vector ∷ calls) = IsVector vector × HearsVectors calls
HearsVectors (Ticks ∷ calls) = HearsVectors calls
HearsVectors (HearsScalar stamp ∷ calls) = HearsVectors calls
HearsVectors (Tells ∷ calls) = HearsVectors calls

-- The vectors that were learnt, joined, are all that was heard.
abbrev pub LearntIsHeard : ℕ → ℕ → List Call → Type 0
LearntIsHeard writer start calls =
    let first = started writer start in
    joined_all (learnt_vectors first calls) ≡ (called_all first calls).heard
