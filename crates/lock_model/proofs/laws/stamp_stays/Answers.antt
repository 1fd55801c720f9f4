use Rattle.lock_model.proofs.PageLemmas.{stamp_stays}
use Rattle.lock_model.proofs.laws.stamp_stays.Goals as goal

pub returns : goal.returns
returns c = stamp_stays
