use Rattle.page_model.specs.Tree.{level_of}
use Rattle.row_tree.proofs.path.+add_below.Given as goal

abbrev pub decreases-add_below : goal.decreases-add_below
decreases-add_below g l = level_of l.body.now
