use Rattle.std.proofs.Common.{◌<◌, ◌^◌, Some, refl, sym, ap, subst, ◌∙◌, arith}
use Rattle.std.specs.Prelude.{IsSome}
use Rattle.std.proofs.lemmas.Result.{err_from_is_err_and}
use Rattle.tm_data.specs.declared.log.Record.{Record}
use Rattle.page_model.specs.declared.link.Link.{Link}
use Rattle.page_model.specs.Effects.{page_of, prev_of}
use Rattle.page_model.specs.Versions.{link_of, taken, taken_again, changed_page}
use Rattle.version_chain.proofs.AddLemmas.{rising, taken_held, taken_new, held_new}
use Rattle.version_chain.proofs.records.Records.add.Goals as goal

pub place_of-requires : goal.place_of-requires
place_of-requires c = rising c.self.inside.pages c.changed_page-page.result c.links-links.result.now c.links-links.ensures c.self.invariant

pub returns-then-is_same : goal.returns-then-is_same
returns-then-is_same c =
    let new : Link = link_of c.args.writer.0 c.args.stamp.0 c.args.change.now in
    ap (λ m. taken m new) (sym c.self.view_is)
    ∙ taken_held c.self.inside.pages c.changed_page-page.result c.links-links.result.now c.in-At.at c.index-links-at.result new c.links-links.ensures c.changed_page-page.ensures c.self.invariant c.in-At.ensures c.index-links-at.is
    ∙ ap (taken_again c.self.inside.pages) (sym c.is_same.ensures ∙ c.if-is_same.true)
    ∙ ap Some c.self.view_is

pub returns-else-is_same : goal.returns-else-is_same
returns-else-is_same c =
    let new : Link = link_of c.args.writer.0 c.args.stamp.0 c.args.change.now in (
      refl,
      refl,
      ap (λ m. taken m new) (sym c.self.view_is)
          ∙ taken_held c.self.inside.pages c.changed_page-page.result c.links-links.result.now c.in-At.at c.index-links-at.result new c.links-links.ensures c.changed_page-page.ensures c.self.invariant c.in-At.ensures c.index-links-at.is
          ∙ ap (taken_again c.self.inside.pages) (sym c.is_same.ensures ∙ c.if-is_same.false),
    )

pub returns-in_err-change-in-Before : goal.returns-in_err-change-in-Before
returns-in_err-change-in-Before c =
    let p = err_from_is_err_and c.from_residual.result c.from_residual.ensures.1 in
    let new : Link = link_of c.args.writer.0 c.args.stamp.0 c.args.change.now in
    let e = taken_new c.self.inside.pages c.changed_page-page.result c.links-links.result.now c.in-Before.at new c.links-links.ensures c.changed_page-page.ensures c.in-Before.ensures in
    rw (p.1, p.2) (refl, subst (λ m. IsSome (taken m new)) c.self.view_is (subst (λ o. IsSome o) (sym e) refl))

pub returns-in_err-put-in-Before : goal.returns-in_err-put-in-Before
returns-in_err-put-in-Before c =
    let p = err_from_is_err_and c.from_residual-in_err-put-in-Before.result c.from_residual-in_err-put-in-Before.ensures.1 in
    let new : Link = link_of c.args.writer.0 c.args.stamp.0 c.args.change.now in
    let e = taken_new c.self.inside.pages c.changed_page-page.result c.links-links.result.now c.in-Before.at new c.links-links.ensures c.changed_page-page.ensures c.in-Before.ensures in
    rw (p.1, p.2) (c.in_err-put-in-Before.ensures.err ∙ c.self.view_is, subst (λ m. IsSome (taken m new)) c.self.view_is (subst (λ o. IsSome o) (sym e) refl))

pub invariant_of-self-in-Before : goal.invariant_of-self-in-Before
invariant_of-self-in-Before c =
    let change = c.in_ok-change-in-Before.change in
    let same = c.in_ok-change-in-Before.ensures in
    let new : Link = record { stamp = c.args.stamp; writer = c.args.writer; change = change } in
    let fits : c.args.stamp.0 < 2 ^ 64 = omega arith in
    held_new c.self.inside.pages c.put.new.self c.changed_page-page.result c.links-links.result.now c.in-Before.at new c.links-links.ensures (c.changed_page-page.ensures ∙ ap changed_page (sym same)) (subst (λ (r : Record). IsSome (page_of r)) (sym same) c.requires.names) (subst (λ (r : Record). prev_of r < c.args.stamp.0) (sym same) c.requires.later) fits c.in-Before.ensures c.in_ok-put-in-Before.ensures.ok c.self.invariant

pub returns-in_ok-put-in-Before : goal.returns-in_ok-put-in-Before
returns-in_ok-put-in-Before c =
    let change = c.in_ok-change-in-Before.change in
    let same = c.in_ok-change-in-Before.ensures in
    let new : Link = record { stamp = c.args.stamp; writer = c.args.writer; change = change } in
    ap (λ (r : Record). taken c.args.self.now (link_of c.args.writer.0 c.args.stamp.0 r)) (sym same)
    ∙ ap (λ m. taken m new) (sym c.self.view_is)
    ∙ taken_new c.self.inside.pages c.changed_page-page.result c.links-links.result.now c.in-Before.at new c.links-links.ensures (c.changed_page-page.ensures ∙ ap changed_page (sym same)) c.in-Before.ensures
    ∙ ap Some (sym c.in_ok-put-in-Before.ensures.ok)
