use Rattle.std.proofs.Common.{◌≡◌, ◌≤◌, ◌+◌, length, drop}
use Rattle.indexmap.specs.IndexMap.{spare}
use Rattle.store_model.specs.LogStep.{with_entries}
use Rattle.log_store.proofs.logs.close_in.Given as goal

abbrev pub invariant-loop-entry : goal.invariant-loop-entry
invariant-loop-entry l = (length l.entries ≤ spare l.map + l.entry-index) × (with_entries l.map.entries (drop l.entry-index l.entries) ≡ with_entries l.initial.map.entries l.entries)
