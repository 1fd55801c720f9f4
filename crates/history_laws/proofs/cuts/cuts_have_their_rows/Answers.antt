use Rattle.history_laws.proofs.CutRuns.{cuts_have_rows}
use Rattle.history_laws.proofs.cuts.cuts_have_their_rows.Goals as goal

pub returns : goal.returns
returns c = cuts_have_rows
