use Rattle.history_laws.proofs.CutRows.{rows_at_them}
use Rattle.history_laws.proofs.cuts.cuts_have_the_rows_at_them.Goals as goal

pub returns : goal.returns
returns c = rows_at_them
