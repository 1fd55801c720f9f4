use Rattle.tree_laws.proofs.NamedPages.{none_goes}
use Rattle.tree_laws.proofs.logs.no_image_goes.Goals as goal

pub returns : goal.returns
returns c = λ images stamp group table p image fits at. none_goes images stamp group table p image fits at
