use Rattle.tree_laws.proofs.TableMap.{table_map}
use Rattle.tree_laws.proofs.a_tiled_table_is_a_map.Goals as goal

pub returns : goal.returns
returns c = table_map
