use Rattle.std.proofs.Common.{◌≡◌, length}
use Rattle.tm_disks.specs.MemoryDisk.{synced, IsWhole}
use Rattle.tm_disks.proofs.stored.Stored.take_back.Given as goal

abbrev pub invariant-loop-mark : goal.invariant-loop-mark
invariant-loop-mark l = record {
  whole : IsWhole (record { store = l.self-inside.store.items; size = l.self-inside.size }) l.self-inside.history;
  left : synced l.self-inside.history.changes (record { store = l.self-inside.store.items; size = l.self-inside.size }) ≡ synced l.fn.self.past.changes l.fn.self.file;
}

abbrev pub decreases-loop-mark : goal.decreases-loop-mark
decreases-loop-mark l = length l.self-inside.history.changes
