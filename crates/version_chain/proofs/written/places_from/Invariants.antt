use Rattle.std.proofs.Common.{◌≡◌, ◌++◌}
use Rattle.version_chain.specs.Inside.{places_from}
use Rattle.version_chain.proofs.WrittenLemmas.{front_of}
use Rattle.version_chain.proofs.written.places_from.Given as goal

abbrev pub invariant-loop-it : goal.invariant-loop-it
invariant-loop-it l =
    (goal.iterator-loop-it).can_next l.it-iterator ×
    (goal.iterator-loop-it).is_finite l.it-iterator ×
    (l.places ++ front_of l.it-iterator l.writer.0 ≡ places_from l.written.keys l.writer.0 l.fn.from.0)
