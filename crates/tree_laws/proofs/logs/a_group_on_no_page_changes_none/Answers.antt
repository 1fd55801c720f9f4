use Rattle.tree_laws.proofs.GroupLemmas.{nothing_changed}
use Rattle.tree_laws.proofs.logs.a_group_on_no_page_changes_none.Goals as goal

pub returns : goal.returns
returns c = λ images stamp group p none. nothing_changed images stamp p group none
