use Rattle.std.proofs.Common.{◌∙◌}
use Rattle.lock_table.proofs.Asked.{foreign_is}
use Rattle.lock_table.proofs.tags.Tags.foreign.Goals as goal

pub returns : goal.returns
returns c =
    let i = c.self.invariant in
    c.foreign.ensures i.0 i.1 ∙ foreign_is c.self.inside.nodes i.0 c.args.self.now c.args.page.0 c.args.own.0 i.1 c.self.view_is
