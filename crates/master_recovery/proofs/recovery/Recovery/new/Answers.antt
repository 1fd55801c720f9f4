use Rattle.master_recovery.proofs.ShownLemmas.{new_shown}
use Rattle.master_recovery.proofs.recovery.Recovery.new.Goals as goal

pub returns : goal.returns
returns c = new_shown c.args.writer.0 c.new.result c.new-2.result c.new-3.result c.new.ensures c.new-2.ensures c.new-3.ensures
