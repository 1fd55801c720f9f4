-- The images of a cut have the rows at the cut.
use Rattle.std.proofs.Common.{◌≡◌, List, subst}
use Rattle.key_model.specs.Cuts.{Cut, row_at}
use Rattle.history_model.specs.History.{Entry, groups, events}
use Rattle.history_model.specs.Images.{Rows, images_at, rows_in}
use Rattle.history_model.specs.Blocks.{PutsStandTogether}
use Rattle.history_laws.specs.CutRows.{HasItsRows, CutsHaveTheRowsAtThem}
use Rattle.history_laws.proofs.CutRuns.{cuts_have_rows}
use Rattle.history_laws.proofs.RowLemmas.{rows_made}

same_rows : (entries : List Entry) (cut : Cut) → PutsStandTogether (events entries) → rows_in cut (groups entries) ≡ row_at (events entries) cut
same_rows entries cut together = λ i key. rows_made entries cut together key i

pub rows_at_them : CutsHaveTheRowsAtThem
rows_at_them entries cut fit together is_whole =
    subst (λ (rows : Rows). HasItsRows (images_at cut (groups entries)) rows) (same_rows entries cut together) (cuts_have_rows (groups entries) cut fit is_whole)
