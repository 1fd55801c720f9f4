use Rattle.std.proofs.Common.{ap, subst, rules, ◌∙◌, sym}
use Rattle.std.specs.Prelude.{is_some}
use Rattle.std.specs.FinMap.{get}
use Rattle.key_index.specs.Touched.{HasNoneOf}
use Rattle.key_index.proofs.LeaveLemmas.{first_there, first_other, first_none}
use Rattle.key_index.proofs.opened.OpenMap.first_of.Goals as goal

pub returns-in-Some-clause-there : goal.returns-in-Some-clause-there
returns-in-Some-clause-there c = (
  search rules,
  ap (λ m. is_some (get m c.in-Some.txn.now)) (sym c.self.view_is)
      ∙ first_there c.self.inside.opened c.args.writer c.range.result c.next.new.self c.in-Some.txn.now c.in-Some.field-0-1.now (c.range.ensures.in_range tt) c.in-Some.ensures.steps,
)

pub returns-in_default-clause-none : goal.returns-in_default-clause-none
returns-in_default-clause-none c =
    subst (λ m. HasNoneOf m c.args.writer) c.self.view_is
    (first_other c.self.inside.opened c.args.writer c.range.result c.next.new.self c.in-Some.txn.now c.in-Some.field-0-1.now (c.range.ensures.in_range tt) c.in-Some.ensures.steps (search rules))

pub returns-in_default-2-clause-none : goal.returns-in_default-2-clause-none
returns-in_default-2-clause-none c =
    subst (λ m. HasNoneOf m c.args.writer) c.self.view_is (first_none c.self.inside.opened c.args.writer c.range.result (c.range.ensures.in_range tt) (search rules))
