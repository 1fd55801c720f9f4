use Rattle.std.proofs.Common.{true}
use Rattle.lease_desk.proofs.HeldLemmas.{in_set, one_more}
use Rattle.lease_desk.proofs.held_pages.HeldPages.add.Goals as goal

pub returns-clause-there : goal.returns-clause-there
returns-clause-there c = in_set c.self.inside.pages.keys c.insert.new.self.keys c.args.self.now c.args.page true c.self.view_is c.in_ok-insert.ensures.updates.0

pub returns-clause-count : goal.returns-clause-count
returns-clause-count c = one_more c.self.inside.pages.keys c.args.self.now c.args.page _ c.in_ok-insert.field-0 c.self.view_is c.requires c.in_ok-insert.ensures.added c.in_ok-insert.ensures.len
