-- the_first_images_tile_each_table/Answers.antt
use Rattle.tree_laws.proofs.FirstImages.{first_tiles, first_map}
use Rattle.tree_laws.proofs.the_first_images_tile_each_table.Goals as goal

pub returns : goal.returns
returns c = λ table least most. (first_tiles table least most, first_map table least most)
