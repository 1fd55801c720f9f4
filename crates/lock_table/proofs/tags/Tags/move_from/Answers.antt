use Rattle.std.proofs.Common.{◌≡◌, true, sym, ◌∙◌, arith}
use Rattle.std.specs.Prelude.{nat_eq}
use Rattle.std.proofs.lemmas.Bool.Decides.{nat_tests}
use Rattle.lock_table.proofs.Moving.{moved_is, moved_nowhere}
use Rattle.lock_table.proofs.tags.Tags.move_from.Goals as goal

pub returns-then-eq-clause-ok : goal.returns-then-eq-clause-ok
returns-then-eq-clause-ok c =
    let tied : nat_eq c.args.page.0 c.args.to.0 ≡ true = sym c.eq.ensures ∙ c.if-eq.true in
    let same : c.args.page.0 ≡ c.args.to.0 = grind (arith, nat_tests) in
    moved_nowhere c.args.self.now c.args.page.0 c.args.at.now c.args.to.0 same

pub returns-clause-ok : goal.returns-clause-ok
returns-clause-ok c =
    let i = c.self.invariant in
    moved_is c.self.inside.nodes c.move_from.new.self i.0 c.args.self.now c.args.page.0 c.args.at.now c.args.to.0 i.1 c.self.view_is (c.in_ok-move_from.ensures.moved i.0 i.1)
