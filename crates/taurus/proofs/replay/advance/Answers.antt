use Rattle.std.proofs.Common.{◌≡◌, inl, inr, sym}
use Rattle.taurus.proofs.FoundLemmas.{last_taken, line_taken}
use Rattle.taurus.proofs.ReplayLemmas.{taken_cause}
use Rattle.taurus.proofs.replay.advance.Goals as goal

pub returns-in-Line-clause-cause : goal.returns-in-Line-clause-cause
returns-in-Line-clause-cause g c =
    taken_cause c.in-Err.stop _ _ _ _ _ _ _ _ _ _ _ _ (inl (line_taken _ _ _ _ c.in-Ok.found c.in-Ok.ensures.found c.in-Line.line c.as_slice.result.now c.in-Line.is (sym c.as_slice.ensures))) c.in-Err.ensures.cause

pub returns-in-Last-clause-cause : goal.returns-in-Last-clause-cause
returns-in-Last-clause-cause g c =
    taken_cause c.in-Err-perform.stop _ _ _ _ _ _ _ _ _ _ _ _ (inr (last_taken _ _ _ _ c.in-Ok.found c.in-Ok.ensures.found c.in-Last.line c.as_slice-in-Last.result.now c.in-Last.is (sym c.as_slice-in-Last.ensures))) c.in-Err-perform.ensures.cause
