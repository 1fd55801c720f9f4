use Rattle.std.proofs.Common.{◌≤◌, ◌+◌, ◌-◌, List}
use Rattle.std.specs.Prelude.{IsSome}
use Rattle.std.specs.FinMap as map
use Rattle.lock_table.specs.Inside.{Entry, Stand, head_in}
use Rattle.lock_table.proofs.Moving.{Moving}
use Rattle.lock_table.proofs.nodes.Nodes.move_from.Given as goal

abbrev pub invariant-loop : goal.invariant-loop
invariant-loop l =
    record {
      there : IsSome (map.get l.self.pages l.to.0);
      count : (head_in (map.get l.self.pages l.to.0)).count ≤ (head_in (map.get l.initial.self.pages l.to.0)).count + l.counter;
      moving : (es : List Entry) → Stand l.fn.self es → Moving l.fn.page.0 l.at l.to.0 es l.self l.next (l.most - l.counter);
    }
