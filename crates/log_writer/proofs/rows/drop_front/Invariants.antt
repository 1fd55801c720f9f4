use Rattle.std.proofs.Common.{◌≡◌, drop}
use Rattle.log_writer.proofs.rows.drop_front.Given as goal

abbrev pub invariant-loop : goal.invariant-loop
invariant-loop l = l.groups.items ≡ drop l.counter l.initial.groups.items
