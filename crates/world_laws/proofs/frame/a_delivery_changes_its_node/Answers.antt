use Rattle.world_laws.proofs.FrameLemmas.{delivery_has_frame}
use Rattle.world_laws.proofs.frame.a_delivery_changes_its_node.Goals as goal

pub returns : goal.returns
returns c = delivery_has_frame
