use Rattle.std.proofs.Common.{◌≡◌, false, ◌∙◌, ap, sym}
use Rattle.std.specs.Prelude.{filter, is_some, IfNone}
use Rattle.std.specs.declared.option.Option.{Option}
use Rattle.std.specs.declared.option.Option.TheVariants.{None, Some}
use Rattle.lock_table.specs.Tags.{Tags, is_on, items, without_page}
use Rattle.lock_table.proofs.Values.{same_without, none_mapped}
use Rattle.lock_table.proofs.tags.Tags.drop_page.Goals as goal

where_none : {A P : Type 0} → (o : Option A) → is_some o ≡ false → IfNone o P → P
where_none None is p = p
where_none (Some x) is p = absurd (cc is)

pub returns-clause-gone : goal.returns-clause-gone
returns-clause-gone g c =
    let end = where_none c.take_on.result (sym c.is_some.ensures ∙ c.if-is_some.false) c.take_on.ensures.none in
    let p = c.args.page.0 in
    end.2 ∙ (same_without (is_on p) c.loop.self (none_mapped (filter (is_on p) (items c.loop.self)) end.1) ∙ c.loop.invariant.others) ∙ ap (λ (tags : Tags). without_page tags p) c.forget.ensures
