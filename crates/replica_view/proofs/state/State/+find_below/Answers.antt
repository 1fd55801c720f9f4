use Rattle.std.proofs.Common.{rules, ◌≡◌, ◌∙◌, ◌-◌, ℕ, List, Option, Result, Ok, ap, subst, sym}
use Rattle.row_tree.specs.Inside.{place_of}
use Rattle.replica_model.specs.Reads.{Refused, find_in}
use Rattle.replica_view.specs.Answers.{Sees}
use Rattle.replica_view.proofs.ReadLemmas.{child_for_is, goes_down}
use Rattle.replica_view.proofs.state.State.+find_below.Goals as goal

pub returns-in_err-value-in-Inner : goal.returns-in_err-value-in-Inner
returns-in_err-value-in-Inner t c =
    let i = c.in-Inner in
    let way : find_in c.args.self.now c.args.cut.now c.args.table c.args.key.now c.args.levels (Ok c.args.body.now) ≡ find_in c.args.self.now c.args.cut.now c.args.table c.args.key.now (c.args.levels - 1) (Ok c.in_ok-child-in-Inner.child) =
    goes_down c.args.self.now c.args.cut.now c.args.table c.args.key.now c.args.levels c.args.body.now i.table i.level i.low i.high i.first i.entries (place_of c.child_for-place.result)
    i.is (child_for_is c.args.key.now c.as_slice.result.now i.low i.high i.first i.entries (place_of c.child_for-place.result) c.as_slice.ensures.same c.child_for-place.ensures) c.if-levels-eq0.false
    ∙ ap (find_in c.args.self.now c.args.cut.now c.args.table c.args.key.now (c.args.levels - 1)) c.in_ok-child-in-Inner.ensures in
    subst (λ (given : Result (Option (List ℕ)) Refused). Sees c.from_residual-in_err-value-in-Inner.result given) (sym way) (search rules)

pub returns-in_ok-value-in-Inner : goal.returns-in_ok-value-in-Inner
returns-in_ok-value-in-Inner t c =
    let i = c.in-Inner in
    goes_down c.args.self.now c.args.cut.now c.args.table c.args.key.now c.args.levels c.args.body.now i.table i.level i.low i.high i.first i.entries (place_of c.child_for-place.result)
    i.is (child_for_is c.args.key.now c.as_slice.result.now i.low i.high i.first i.entries (place_of c.child_for-place.result) c.as_slice.ensures.same c.child_for-place.ensures) c.if-levels-eq0.false
    ∙ ap (find_in c.args.self.now c.args.cut.now c.args.table c.args.key.now (c.args.levels - 1)) c.in_ok-child-in-Inner.ensures
    ∙ c.in_ok-value-in-Inner.ensures
