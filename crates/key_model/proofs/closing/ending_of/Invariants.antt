use Rattle.std.proofs.Common.{◌≡◌, drop}
use Rattle.key_model.specs.Inside.{no_ending, all_ending}
use Rattle.key_model.proofs.closing.ending_of.Given as goal

abbrev pub invariant-loop-end : goal.invariant-loop-end
invariant-loop-end l = all_ending l.opened l.ending (drop l.end-index l.ends) ≡ all_ending l.opened no_ending l.ends
