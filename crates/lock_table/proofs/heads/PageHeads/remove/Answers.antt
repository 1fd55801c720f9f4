use Rattle.lock_table.proofs.Hashed.{page_drops}
use Rattle.lock_table.proofs.heads.PageHeads.remove.Goals as goal

pub returns : goal.returns
returns c = page_drops c.self.inside.heads.entries c.remove.new.self.entries c.args.self.now c.args.page c.remove.ensures.updates.0 c.self.view_is
