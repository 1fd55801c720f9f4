use Rattle.std.proofs.Common.{◌≡◌, ◌≤◌, length}
use Rattle.std.specs.Vec.Iter.{into_iter_items}
use Rattle.indexmap.specs.IndexMap.{spare}
use Rattle.lock_model.specs.State.{put_all}
use Rattle.global_locks.proofs.table.Table.put_all.Given as goal

abbrev pub invariant-loop-number : goal.invariant-loop-number
invariant-loop-number g l = (goal.iterator-loop-number g).can_next l.number-iterator
    × (goal.iterator-loop-number g).is_finite l.number-iterator
    × (put_all l.self-inside.map.entries (into_iter_items l.number-iterator) ≡ put_all l.fn.self l.fn.entries.items)
    × (length (into_iter_items l.number-iterator) ≤ spare l.self-inside.map)
