use Rattle.std.proofs.Common.{◌∙◌}
use Rattle.lock_table.proofs.Withdrawn.{copied}
use Rattle.lock_table.proofs.tags.Tags.copy_page.Goals as goal

pub returns : goal.returns
returns c =
    let i = c.self.invariant in
    c.in_ok-tags.ensures i.0 i.1 ∙ copied c.self.inside.nodes i.0 c.args.self.now c.args.page.0 i.1 c.self.view_is
