use Rattle.std.proofs.Common.{sym, ap, ◌∙◌}
use Rattle.std.specs.Prelude.{not, is_some}
use Rattle.page_model.specs.declared.link.Link.{Link}
use Rattle.page_model.specs.Versions.{link_of, taken}
use Rattle.version_chain.proofs.AddLemmas.{rising, some_again, taken_held, taken_new}
use Rattle.version_chain.proofs.records.Records.differs.Goals as goal

pub place_of-requires : goal.place_of-requires
place_of-requires c = rising c.self.inside.pages c.changed_page.result c.links-links.result.now c.links-links.ensures c.self.invariant

pub returns-in-At : goal.returns-in-At
returns-in-At c =
    let new : Link = link_of c.args.writer.0 c.args.stamp.0 c.args.change.now in
    ap not (c.is_same.ensures
    ∙ sym (some_again c.self.inside.pages _)
    ∙ sym (ap is_some (taken_held c.self.inside.pages c.changed_page.result c.links-links.result.now c.in-At.at c.index-links-at.result new c.links-links.ensures c.changed_page.ensures c.self.invariant c.in-At.ensures c.index-links-at.is)))
    ∙ ap (λ m. not (is_some (taken m new))) c.self.view_is

pub returns-in-Before : goal.returns-in-Before
returns-in-Before c =
    let new : Link = link_of c.args.writer.0 c.args.stamp.0 c.args.change.now in
    sym (ap (λ o. not (is_some o)) (taken_new c.self.inside.pages c.changed_page.result c.links-links.result.now c.in-Before.field-0 new c.links-links.ensures c.changed_page.ensures c.in-Before.ensures))
    ∙ ap (λ m. not (is_some (taken m new))) c.self.view_is
