use Rattle.std.proofs.Common.{refl}
use Rattle.master_model.proofs.laws.facts_hold_at_the_start.Goals as goal

pub returns : goal.returns
returns c begun number boot stores = refl
