use Rattle.std.proofs.Common.{sym, ◌∙◌}
use Rattle.lock_table.proofs.Values.{count_on}
use Rattle.lock_table.proofs.tags.Tags.count_on.Goals as goal

pub returns : goal.returns
returns c =
    let i = c.self.invariant in
    c.count_on.ensures ∙ ((i.1.page c.args.page.0).count ∙ sym (count_on c.self.inside.nodes i.0 c.args.self.now c.args.page.0 i.1 c.self.view_is))
