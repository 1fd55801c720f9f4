use Rattle.std.proofs.Common.{◌∙◌}
use Rattle.lock_table.proofs.Hashed.{page_has}
use Rattle.lock_table.proofs.heads.PageHeads.get.Goals as goal

pub returns : goal.returns
returns c = page_has c.self.inside.heads.entries c.args.self.now c.args.page _ (c.copied.ensures ∙ c.get.ensures.value) c.self.view_is
