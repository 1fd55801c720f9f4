use Rattle.std.proofs.Common.{List, length, vec_len}
use Rattle.lock_table.specs.Inside.{Entry, Stand}
use Rattle.lock_table.specs.Putting.{IsReady}
use Rattle.lock_table.proofs.Putting.{Putting}
use Rattle.lock_table.proofs.nodes.Nodes.put_all.Given as goal

abbrev pub invariant-loop-tag : goal.invariant-loop-tag
invariant-loop-tag l =
    record {
      ready : IsReady l.self l.fn.page.0 (length l.rest.items) l.rest.items;
      putting : (es : List Entry) → Stand l.fn.self es → Putting l.fn.page.0 l.fn.tags.items l.rest.items es l.self;
    }

abbrev pub decreases-loop-tag : goal.decreases-loop-tag
decreases-loop-tag l = vec_len l.rest
