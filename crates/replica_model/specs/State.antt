-- The state of a replica.
use Rattle.std.specs.Prelude.{ℕ, ◌-◌, cond, nat_eq, List, [], slice_get}
use Rattle.std.specs.Ordering.{nat_cmp}
use Rattle.std.specs.FinMap.{FinMap}
use Rattle.std.specs.FinMap as fin
use Rattle.std.specs.declared.option.Option.{Option}
use Rattle.std.specs.declared.option.Option.TheVariants.{None}
use Rattle.tm_data.specs.declared.vector.VectorEntry.{VectorEntry}
use Rattle.tm_data.specs.Orders.{txn_cmp}
use Rattle.tm_base.specs.declared.message.RosterEntry.{RosterEntry}
use Rattle.page_model.specs.Versions.{Held}
use Rattle.replica_model.specs.declared.line.EndMark.{EndMark}
use Rattle.replica_model.specs.Order.{Order, nothing}

pub record State : Type 0 where
  -- which of the replicas it is
  pub number : ℕ
  -- the greatest scalar heard
  pub scalar : ℕ
  -- the log store that is asked on the next tick, 1 to 3
  pub turn : ℕ
  -- the stamp of the last roster, and what it says, by the writer's number
  pub roster_stamp : ℕ
  pub roster : FinMap nat_cmp RosterEntry
  -- what was received and what was applied
  pub order : Order
  -- of the applied groups: by page the records, and by transaction where its end is
  pub pages : Held
  pub ends : FinMap txn_cmp EndMark
  -- the vectors of the points that were published, the first of number 1
  pub points : List (List VectorEntry)

-- The state of a replica that has heard nothing.
abbrev pub start : ℕ → State
start number = record {
  number = number;
  scalar = 0;
  turn = 1;
  roster_stamp = 0;
  roster = fin.empty;
  order = nothing;
  pages = fin.empty;
  ends = fin.empty;
  points = [];
}

-- The vector of a point.
abbrev pub point : State → ℕ → Option (List VectorEntry)
point s number = cond (nat_eq number 0) None (slice_get s.points (number - 1))
