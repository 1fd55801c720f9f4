use Rattle.std.proofs.Common.{◌∙◌, ap}
use Rattle.std.specs.Prelude.{filter}
use Rattle.lock_table.specs.Tags.{Tags, is_on, items, without_page}
use Rattle.lock_table.proofs.Values.{same_without, none_mapped}
use Rattle.lock_table.proofs.tags.Tags.take_page.Goals as goal

pub returns-clause-gone : goal.returns-clause-gone
returns-clause-gone g c =
    let end = c.in_default.ensures.none in
    let p = c.args.page.0 in
    end.2 ∙ (same_without (is_on p) c.loop-tag.self (none_mapped (filter (is_on p) (items c.loop-tag.self)) end.1) ∙ c.loop-tag.invariant.others) ∙ ap (λ (tags : Tags). without_page tags p) c.forget.ensures
