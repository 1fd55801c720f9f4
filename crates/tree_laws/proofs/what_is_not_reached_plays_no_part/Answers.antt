-- what_is_not_reached_plays_no_part/Answers.antt
use Rattle.tree_laws.proofs.ReachAlone.{tiles_alone, rows_alone}
use Rattle.tree_laws.proofs.what_is_not_reached_plays_no_part.Goals as goal

pub returns : goal.returns
returns c = λ images other table same t. (tiles_alone images other table same t, rows_alone images other table same)
