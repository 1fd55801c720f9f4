use Rattle.std.proofs.Common.{◌≡◌, length}
use Rattle.std.specs.Prelude.{take}
use Rattle.std.specs.List.{AllByRecursion}
use Rattle.std.specs.FinMap as map
use Rattle.tm_base.specs.declared.message.Tag.{Tag}
use Rattle.tm_data.specs.declared.transaction.Txn.{Txn}
use Rattle.lock_table.specs.Inside.{head_in}
use Rattle.lock_table.specs.Putting.{HasPlace}
use Rattle.lock_table.proofs.nodes.Nodes.open_all.Given as goal

abbrev pub invariant-loop-tag : goal.invariant-loop-tag
invariant-loop-tag l =
    record {
      slab : l.self.slab ≡ l.initial.self.slab;
      pages : l.self.pages ≡ l.initial.self.pages;
      orders : l.self.orders ≡ l.initial.self.orders;
      heads : (x : Txn) → head_in (map.get l.self.txns x) ≡ head_in (map.get l.initial.self.txns x);
      txns : AllByRecursion (λ (t : Tag). HasPlace (length l.tags) (map.get l.self.txns t.txn)) (take l.tag-index l.tags);
    }
