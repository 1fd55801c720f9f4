use Rattle.std.proofs.Common.{rules, None, refl, sym, ap, ◌≡◌, ◌∙◌, false}
use Rattle.std.specs.Prelude.{is_none, is_some}
use Rattle.page_store.proofs.IntakeLemmas.{on_err}
use Rattle.page_store.proofs.StateLemmas.{copied_some, groups_left, groups_part}
use Rattle.page_store.proofs.state.State.on_groups.Goals as goal

pub returns-in_default-clause-ok : goal.returns-in_default-clause-ok
returns-in_default-clause-ok c =
    let off : is_none c.get.result ≡ false = search rules in
    let none : c.in_ok-front.field-0 ≡ None = search rules in
    groups_left _ c.args.self.now c.args.from c.args.writer c.args.groups.now c.take_groups.new.pages.records c.new-in_default.result c.next_of-next.result c.in_ok-front.field-0
    c.self.view_is (sym (ap is_some c.get.ensures) ∙ copied_some c.get.result off) c.next_of-next.ensures c.in_ok-front.ensures.front none c.in_ok-front.ensures.ok c.new-in_default.ensures

pub returns-in_err-outputs-clause-err : goal.returns-in_err-outputs-clause-err
returns-in_err-outputs-clause-err c =
    let off : is_none c.get.result ≡ false = search rules in
    on_err c.from_residual-in_err-outputs.result _
    (groups_part _ c.args.self.now c.args.writer c.args.groups.now c.take_groups.new.pages.records c.self.inside.fronts c.next_of-next.result
    c.self.view_is (sym (ap is_some c.get.ensures) ∙ copied_some c.get.result off) c.next_of-next.ensures c.in_ok-front.ensures.ok refl)

pub returns-in_err-insert-clause-err : goal.returns-in_err-insert-clause-err
returns-in_err-insert-clause-err c =
    let off : is_none c.get.result ≡ false = search rules in
    on_err c.from_residual-in_err-insert.result _
    (groups_part _ c.args.self.now c.args.writer c.args.groups.now c.take_groups.new.pages.records c.insert.new.self c.next_of-next.result
    c.self.view_is (sym (ap is_some c.get.ensures) ∙ copied_some c.get.result off) c.next_of-next.ensures c.in_ok-front.ensures.ok c.in_err-insert.ensures.err)
