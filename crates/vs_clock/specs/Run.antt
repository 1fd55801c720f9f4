-- Runs of clocks of different writers, each of which is named by its writer.
use Rattle.std.specs.Prelude.{ℕ, Bool, true, false, cond, nat_eq, List, [], ◌∷◌, ◌++◌, Option, Some, None, slice_get}
use Rattle.vs_clock.specs.State.{State, started, heard_scalar, heard_vector, can_tick, ticked, sending}

-- What is done at a clock: a tick; a send by its scalar; a send by scalar and vector, where the caller
-- names the stamp that the clock's writer has made durable; the receipt of what was sent at that place
-- of the list, counted from 0. One send may be received any number of times, or never.
pub data Event : Type 0 where
  Tick : (clock : ℕ) → Event
  SendScalar : (clock : ℕ) → Event
  SendVector : (clock durable : ℕ) → Event
  Receive : (clock send : ℕ) → Event

-- The clock at which an event happens.
abbrev pub clock_of : Event → ℕ
clock_of (Tick clock) = clock
clock_of (SendScalar clock) = clock
clock_of (SendVector clock durable) = clock
clock_of (Receive clock send) = clock

-- A clock in a run: its state, and the stamp of its last tick, 0 before the first.
pub record Clock : Type 0 where
  pub state : State
  pub last : ℕ

-- What an event left: its clock after it, and of a tick that was not refused the stamp.
pub record Mark : Type 0 where
  pub event : Event
  pub after : Clock
  pub stamp : Option ℕ

-- All clocks, and what the events so far left, in order.
pub record World : Type 0 where
  pub clocks : ℕ → Clock
  pub past : List Mark

-- Every clock has heard nothing, and stands where it was started.
abbrev pub begun : (ℕ → ℕ) → World
begun start = record { clocks = λ writer. record { state = started writer (start writer); last = 0 }; past = [] }

-- One clock changes, the others stay.
abbrev pub with_clock : (ℕ → Clock) → ℕ → Clock → ℕ → Clock
with_clock clocks writer clock = λ other. cond (nat_eq other writer) clock (clocks other)

-- The world after an event that leaves its clock so.
abbrev pub left : World → Event → Clock → Option ℕ → World
left w event after stamp =
    record {
      clocks = with_clock w.clocks (clock_of event) after;
      past = w.past ++ record { event = event; after = after; stamp = stamp } ∷ [];
    }

abbrev pub with_state : Clock → State → Clock
with_state clock state = record { state = state; last = clock.last }

-- A tick, by whether there is a stamp left.
abbrev pub tick_done : World → ℕ → Bool → World
tick_done w clock true =
    let state = ticked (w.clocks clock).state in
    left w (Tick clock) (record { state = state; last = state.scalar }) (Some state.scalar)
tick_done w clock false = left w (Tick clock) (w.clocks clock) None

-- What a receiver hears of what `sender` sent.
abbrev pub hearing : State → State → Event → State
hearing s sender (SendScalar clock) = heard_scalar s sender.scalar
hearing s sender (SendVector clock durable) = heard_vector (heard_scalar s sender.scalar) (sending sender durable)
hearing s sender (Tick clock) = s
hearing s sender (Receive clock send) = s

-- A receipt that names no earlier send hears nothing.
abbrev pub received : State → Option Mark → State
received s None = s
received s (Some m) = hearing s m.after.state m.event

-- One event. A refused tick leaves its clock as it is.
abbrev pub happens : World → Event → World
happens w (Tick clock) = tick_done w clock (can_tick (w.clocks clock).state)
happens w (SendScalar clock) = left w (SendScalar clock) (w.clocks clock) None
happens w (SendVector clock durable) = left w (SendVector clock durable) (w.clocks clock) None
happens w (Receive clock send) =
    let c = w.clocks clock in
    left w (Receive clock send) (with_state c (received c.state (slice_get w.past send))) None

-- All events of a list, in order.
abbrev pub run : World → List Event → World
run w [] = w
run w (event ∷ events) = run (happens w event) events
