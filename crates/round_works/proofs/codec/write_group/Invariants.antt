use Rattle.std.proofs.Common.{◌≡◌, length}
use Rattle.std.specs.Prelude.{◌*◌}
use Rattle.log_record.specs.Spelling.{group_bytes}
use Rattle.round_works.proofs.codec.write_group.Given as goal

abbrev pub invariant-loop : goal.invariant-loop
invariant-loop l = l.sum ≡ l.counter * length (group_bytes l.group)
