-- without_strays_the_images_tile/Answers.antt
use Rattle.tree_laws.specs.Reach.{without_strays}
use Rattle.tree_laws.proofs.ReachStrays.{strays_left, tiles_left, rows_left}
use Rattle.tree_laws.proofs.ReachParts.{tiles_from_root}
use Rattle.tree_laws.proofs.without_strays_the_images_tile.Goals as goal

pub returns : goal.returns
returns c = λ images table.
    ((tiles_left images table, tiles_from_root images (without_strays images table) table (strays_left images table)), rows_left images table)
