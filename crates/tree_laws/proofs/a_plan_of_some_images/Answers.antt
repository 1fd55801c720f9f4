use Rattle.tree_laws.proofs.SomeImages.{plan_of_part}
use Rattle.tree_laws.proofs.a_plan_of_some_images.Goals as goal

pub returns : goal.returns
returns c = plan_of_part
