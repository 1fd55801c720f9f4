-- What a clock knows, and what each of its calls does to that.
use Rattle.std.specs.Prelude.{◌≡◌, ◌≤◌, ◌+◌, ◌-◌, ◌^◌, ℕ, Bool, not, List, [], max, nat_eq, nat_lt}
use Rattle.std.specs.List.{filter}
use Rattle.tm_data.specs.declared.vector.VectorEntry.{VectorEntry}
use Rattle.tm_data.specs.Vectors.{IsVector, Covers, greatest, joined, single, stamp_of}

-- The scalar of a writer's clock, the vector of what other writers are known to have made durable, and
-- of it the entries that rose since they were last told.
pub record State : Type 0 where
  pub writer : ℕ
  pub scalar : ℕ
  pub heard : List VectorEntry
  pub untold : List VectorEntry

-- A clock that has heard nothing.
abbrev pub started : ℕ → ℕ → State
started writer start = record { writer = writer; scalar = start; heard = []; untold = [] }

-- Hearing a scalar: the clock is at least there. It says nothing of causes.
abbrev pub heard_scalar : State → ℕ → State
heard_scalar s stamp = record s { scalar = max s.scalar stamp }

-- The entries of writers other than `own`.
abbrev pub others : ℕ → List VectorEntry → List VectorEntry
others own v = filter (λ e. not (nat_eq e.writer.0 own)) v

-- The entries that are above what is known of their writers.
abbrev pub news : List VectorEntry → List VectorEntry → List VectorEntry
news known v = filter (λ e. nat_lt (stamp_of known e.writer.0) e.stamp.0) v

-- Hearing a vector: each other writer has the greater of its two stamps, and the scalar is at least at
-- each entry, the own one too.
abbrev pub heard_vector : State → List VectorEntry → State
heard_vector s v =
    record {
      writer = s.writer;
      scalar = max s.scalar (greatest v);
      heard = joined s.heard (others s.writer v);
      untold = joined s.untold (news s.heard (others s.writer v));
    }

-- A tick is refused at the greatest stamp.
abbrev pub can_tick : State → Bool
can_tick s = nat_lt s.scalar (2 ^ 63 - 1)

-- A tick: the next stamp.
abbrev pub ticked : State → State
ticked s = record s { scalar = s.scalar + 1 }

-- The vector for sending: what is heard, and the stamp that the clock's own writer has made durable.
abbrev pub sending : State → ℕ → List VectorEntry
sending s durable = joined s.heard (single s.writer durable)

-- All that was learnt is told.
abbrev pub told : State → State
told s = record s { untold = [] }

-- What holds of every clock: its two vectors are of other writers, what is untold was heard, and the
-- scalar is at least at each stamp that was heard.
pub record IsSound (s : State) : Type 0 where
  pub from_one : 1 ≤ s.writer
  pub heard_ascends : IsVector s.heard
  pub untold_ascends : IsVector s.untold
  pub heard_others : stamp_of s.heard s.writer ≡ 0
  pub untold_heard : Covers s.heard s.untold
  pub heard_below : greatest s.heard ≤ s.scalar
  pub scalar_fits : s.scalar ≤ 2 ^ 63 - 1
