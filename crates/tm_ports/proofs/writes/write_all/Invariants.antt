use Rattle.std.proofs.Common.{◌≤◌, length}
use Rattle.tm_ports.proofs.WrittenLemmas.{Written}
use Rattle.tm_ports.proofs.writes.write_all.Given as goal

abbrev pub invariant-loop-rest : goal.invariant-loop-rest
invariant-loop-rest g l =
    let K = g.K.Sink in
    record {
      written : Written (K.taken l.fn.sink) (K.taken l.sink) l.bytes l.rest;
      later : K.count l.fn.sink ≤ K.count l.sink;
    }

abbrev pub decreases-loop-rest : goal.decreases-loop-rest
decreases-loop-rest g l = length l.rest
