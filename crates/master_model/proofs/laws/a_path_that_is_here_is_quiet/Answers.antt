use Rattle.master_model.proofs.QuietLemmas.{get_quiet, put_quiet, del_quiet}
use Rattle.master_model.proofs.laws.a_path_that_is_here_is_quiet.Goals as goal

pub returns-clause-get : goal.returns-clause-get
returns-clause-get c = get_quiet

pub returns-clause-put : goal.returns-clause-put
returns-clause-put c = put_quiet

pub returns-clause-del : goal.returns-clause-del
returns-clause-del c = del_quiet
