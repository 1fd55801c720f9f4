use Rattle.std.proofs.Common.{◌≡◌, ◌+◌, ◌-◌, ◌≤◌}
use Rattle.taurus.specs.Inside.{At}
use Rattle.taurus.proofs.replay.replay.Given as goal

abbrev pub invariant-loop-number : goal.invariant-loop-number
invariant-loop-number g l =
    let R = g.R.Source in
    let K = g.K.Sink in
    record {
      at : At (R.left l.fn.source) (R.left l.source) (K.taken l.fn.sink) (K.taken l.sink) l.world (l.number - 1) l.reader;
      first : 1 ≤ l.number;
      read : R.count l.fn.source ≤ R.count l.source;
      wrote : K.count l.fn.sink ≤ K.count l.sink;
    }
