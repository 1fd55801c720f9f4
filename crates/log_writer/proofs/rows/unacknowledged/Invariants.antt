use Rattle.std.proofs.Common.{◌≡◌, map, take}
use Rattle.log_writer.specs.Log.{unacknowledged}
use Rattle.log_writer.proofs.rows.unacknowledged.Given as goal

abbrev pub invariant-loop-group : goal.invariant-loop-group
invariant-loop-group l = l.row.items ≡ map unacknowledged (take l.group-index l.groups)
