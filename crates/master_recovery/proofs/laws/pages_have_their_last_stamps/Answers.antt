use Rattle.master_recovery.proofs.LawLemmas.{pages_are_last, pages_ascend}
use Rattle.master_recovery.proofs.laws.pages_have_their_last_stamps.Goals as goal

pub returns-clause-ascending : goal.returns-clause-ascending
returns-clause-ascending c = pages_ascend

pub returns-clause-stamps : goal.returns-clause-stamps
returns-clause-stamps c = pages_are_last
