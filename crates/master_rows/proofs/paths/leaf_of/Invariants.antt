use Rattle.std.proofs.Common.{◌≡◌, None, take}
use Rattle.page_model.specs.Splits.{images_on}
use Rattle.master_model.specs.Paths.{here, last_of}
use Rattle.master_rows.proofs.paths.leaf_of.Given as goal

abbrev pub invariant-loop-at : goal.invariant-loop-at
invariant-loop-at l = last_of None (images_on (here l.work) (take l.at l.pages)) ≡ last_of None (images_on (here l.work) l.pages)
