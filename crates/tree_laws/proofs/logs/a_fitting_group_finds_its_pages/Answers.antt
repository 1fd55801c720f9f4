use Rattle.tree_laws.proofs.NamedPages.{fits_find}
use Rattle.tree_laws.proofs.logs.a_fitting_group_finds_its_pages.Goals as goal

pub returns : goal.returns
returns c = λ images stamp group table p change fits on. fits_find images stamp group table fits p change on
