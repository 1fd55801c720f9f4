-- An acknowledgement that is taken back, and a group.
use Rattle.std.specs.Prelude.{ℕ, ◌-◌, cond, not, ◌&&◌, nat_eq, List, length, take, Option, Some, None, slice_get, slice_set}
use Rattle.log_writer.specs.declared.acks.Acks.{Acks}
use Rattle.log_writer.specs.declared.logged.Logged.{Logged}
use Rattle.log_writer.specs.Log.{Log}

-- The log stores without one of them.
abbrev pub without_ack : Acks → ℕ → Acks
without_ack acks store = record {
  first = acks.first && not (nat_eq store 1);
  second = acks.second && not (nat_eq store 2);
  third = acks.third && not (nat_eq store 3);
}

-- The groups without a store's acknowledgement of the one of a place, counted from 1, if there is such a group.
abbrev pub taken_there : List Logged → ℕ → ℕ → Option Logged → List Logged
taken_there groups store place None = groups
taken_there groups store place (Some logged) = slice_set groups place (record logged { acks = without_ack logged.acks store })

abbrev pub taken_at : List Logged → ℕ → ℕ → List Logged
taken_at groups store place = cond (nat_eq place 0) groups (taken_there groups store (place - 1) (slice_get groups (place - 1)))

-- The log without a store's acknowledgement of the group of a number.
abbrev pub taken_back : Log → ℕ → ℕ → Log
taken_back log store seq = record log { groups = taken_at log.groups store (seq - log.gone) }

-- The log without its last group, if it still has one.
abbrev pub without_last : Log → Log
without_last log = record log { groups = take (length log.groups - 1) log.groups }
