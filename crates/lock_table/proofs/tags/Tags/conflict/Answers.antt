use Rattle.std.proofs.Common.{◌∙◌}
use Rattle.lock_table.proofs.Asked.{conflict_is}
use Rattle.lock_table.proofs.tags.Tags.conflict.Goals as goal

pub returns : goal.returns
returns c =
    let i = c.self.invariant in
    c.other.ensures i.0 i.1 ∙ conflict_is c.self.inside.nodes i.0 c.args.self.now c.args.page.0 c.args.key.now c.args.own i.1 c.self.view_is
