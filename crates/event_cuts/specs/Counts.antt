-- The full vector of an event, as a list.
use Rattle.std.specs.Prelude.{◌≡◌, ◌≤◌, ℕ, cond, List, [], ◌∷◌, map, take, drop}
use Rattle.std.specs.List.{AllByRecursion}
use Rattle.std.specs.List.Sorted.{IsStrictlySortedBy}
use Rattle.tm_data.specs.declared.transaction.Writer.{Writer}
use Rattle.tm_data.specs.Orders.{writer_cmp}
use Rattle.key_model.specs.declared.events.Event.{Event}
use Rattle.key_model.specs.declared.events.Count.{Count}
use Rattle.key_model.specs.After.{same_writer}
use Rattle.key_model.specs.Causes.{full_vector}

-- The number that a list has of a writer, 0 where it has none.
abbrev pub number_in : List Count → Writer → ℕ
number_in [] writer = 0
number_in (c ∷ counts) writer = cond (same_writer writer c.writer) c.number (number_in counts writer)

-- The counts ascend by writer, none is 0, and of each writer there is this number.
pub record AreCounts (number : ℕ → ℕ) (counts : List Count) : Type 0 where
  pub ascending : IsStrictlySortedBy writer_cmp (map (λ c. c.writer) counts)
  pub positive : AllByRecursion (λ c. 1 ≤ c.number) counts
  pub each : (writer : Writer) → number_in counts writer ≡ number writer.0

-- The full vector of the first of some events, with those before it.
abbrev pub vector_of_first : List Event → List Event → List Event → ℕ → ℕ
vector_of_first events before [] actor = 0
vector_of_first events before (j ∷ after) actor = full_vector events before j actor

-- The full vector of the event at a place of the list, counted from 0.
abbrev pub vector_at : List Event → ℕ → ℕ → ℕ
vector_at events place actor = vector_of_first events (take place events) (drop place events) actor
