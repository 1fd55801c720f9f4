use Rattle.std.proofs.Common.{List, ap, sym, ◌∙◌}
use Rattle.tm_base.specs.declared.message.Tag.{Tag}
use Rattle.lock_table.specs.Tags.{with_tags}
use Rattle.lock_table.proofs.Putting.{put_is}
use Rattle.lock_table.proofs.tags.Tags.put_page.Goals as goal

pub returns-clause-ok : goal.returns-clause-ok
returns-clause-ok c =
    let i = c.self.invariant in
    put_is c.self.inside.nodes c.put_all.new.self i.0 c.args.self.now c.args.page.0 c.into_vec-copies.result.items i.1 c.self.view_is (c.put_all.ensures i.0 (c.open_all.ensures.same.stand i.0 i.1))
    ∙ ap (λ (z : List Tag). with_tags c.args.self.now c.args.page.0 z) (c.into_vec-copies.ensures ∙ c.in_ok-copy.ensures)

pub returns-then-is_empty-clause-ok : goal.returns-then-is_empty-clause-ok
returns-then-is_empty-clause-ok c = sym (ap (λ (z : List Tag). with_tags c.args.self.now c.args.page.0 z) (c.is_empty.ensures.0 c.if-is_empty.true))
