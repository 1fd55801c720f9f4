use Rattle.tree_laws.proofs.NamedPages.{fits_alike}
use Rattle.tree_laws.proofs.logs.fitting_is_of_the_named_pages.Goals as goal

pub returns : goal.returns
returns c = fits_alike
