use Rattle.std.proofs.Common.{◌≡◌, ◌≤◌, ◌-◌, length}
use Rattle.tm_ports.specs.Lines.{HasLine, Holds}
use Rattle.tm_ports.proofs.lines.LineReader.next_line.Given as goal

abbrev pub invariant-loop-end : goal.invariant-loop-end
invariant-loop-end g l =
    let R = g.R.Source in
    record {
      held : Holds (R.left l.fn.source) (R.left l.source) l.fn.self l.self;
      ready : HasLine l.fn.self → (l.source ≡ l.fn.source) × (l.self ≡ l.fn.self);
      later : R.count l.fn.source ≤ R.count l.source;
    }

abbrev pub decreases-loop-end : goal.decreases-loop-end
decreases-loop-end g l = 8193 - length l.self
