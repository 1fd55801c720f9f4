use Rattle.std.proofs.Common.{false}
use Rattle.lease_desk.proofs.HeldLemmas.{in_set, one_less}
use Rattle.lease_desk.proofs.held_pages.HeldPages.remove.Goals as goal

pub returns-clause-gone : goal.returns-clause-gone
returns-clause-gone c = in_set c.self.inside.pages.keys c.remove.new.self.keys c.args.self.now c.args.page false c.self.view_is c.remove.ensures.updates.0

pub returns-clause-count : goal.returns-clause-count
returns-clause-count c = one_less c.self.inside.pages.keys c.args.self.now c.args.page _ c.remove.result c.self.view_is c.requires c.remove.ensures.test c.remove.ensures.len
