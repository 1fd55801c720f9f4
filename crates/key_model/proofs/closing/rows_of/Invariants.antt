use Rattle.std.proofs.Common.{◌≡◌, ◌++◌, drop}
use Rattle.key_model.specs.Inside.{rows_left}
use Rattle.key_model.proofs.closing.rows_of.Given as goal

abbrev pub invariant-loop-put : goal.invariant-loop-put
invariant-loop-put l = l.rows ++ rows_left l.opened l.outcomes l.writer (drop l.put-index l.puts) ≡ rows_left l.opened l.outcomes l.writer l.puts
