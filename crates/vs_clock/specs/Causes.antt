-- Which event happened before which (Lamport 1978). This knows the list of events alone, and no stamp.
use Rattle.std.specs.Prelude.{◌≡◌, ◌<◌, ℕ, List, Some, slice_get}
use Rattle.vs_clock.specs.Run.{Event, Tick, SendScalar, SendVector, Receive, clock_of}

abbrev pub IsSend : Event → Type 0
IsSend (SendScalar clock) = Unit {0}
IsSend (SendVector clock durable) = Unit {0}
IsSend (Tick clock) = ⊥
IsSend (Receive clock send) = ⊥

-- Events are named by their places in the list. One happened before another where both are of one clock
-- and it comes first, where it is the send that the other receives, and along chains of these.
pub data HappenedBefore (events : List Event) : ℕ → ℕ → Type 0 where
  same_clock :
      (a b : ℕ) (x y : Event)
      → a < b
      → slice_get events a ≡ Some x
      → slice_get events b ≡ Some y
      → clock_of x ≡ clock_of y
      → HappenedBefore events a b
  message :
      (a b clock : ℕ) (x : Event)
      → a < b
      → slice_get events a ≡ Some x
      → IsSend x
      → slice_get events b ≡ Some (Receive clock a)
      → HappenedBefore events a b
  through : (a b c : ℕ) → HappenedBefore events a b → HappenedBefore events b c → HappenedBefore events a c
