use Rattle.std.proofs.Common.{◌≡◌, ◌++◌, drop}
use Rattle.vs_clock.specs.State.{news, others}
use Rattle.vs_clock.proofs.clock.rising.Given as goal

abbrev pub invariant-loop-entry : goal.invariant-loop-entry
invariant-loop-entry l = l.rising ++ news l.heard (others l.own.0 (drop l.entry-index l.entries)) ≡ news l.heard (others l.own.0 l.entries)
