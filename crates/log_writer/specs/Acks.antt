-- The log stores that acknowledged a group. There are three.
use Rattle.std.specs.Prelude.{ℕ, Bool, true, false, cond, ◌&&◌, ◌||◌, nat_eq, Option, Some, None}
use Rattle.log_writer.specs.declared.acks.Acks.{Acks}

abbrev pub no_acks : Acks
no_acks = record { first = false; second = false; third = false }

abbrev pub all_acks : Acks
all_acks = record { first = true; second = true; third = true }

-- Whether a store is among them.
abbrev pub has : Acks → ℕ → Bool
has acks store = cond (nat_eq store 1) acks.first (cond (nat_eq store 2) acks.second (cond (nat_eq store 3) acks.third false))

abbrev pub has_all : Acks → Bool
has_all acks = acks.first && (acks.second && acks.third)

-- With one more store, if there is one of that number.
abbrev pub with_ack : Acks → ℕ → Acks
with_ack acks store = record {
  first = acks.first || nat_eq store 1;
  second = acks.second || nat_eq store 2;
  third = acks.third || nat_eq store 3;
}

-- The least store that isn't among them, by whether each is.
abbrev pub least_lacking : Bool → Bool → Bool → Option ℕ
least_lacking false second third = Some 1
least_lacking true false third = Some 2
least_lacking true true false = Some 3
least_lacking true true true = None
