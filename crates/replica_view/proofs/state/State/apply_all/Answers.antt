use Rattle.std.proofs.Common.{◌∙◌}
use Rattle.replica_model.specs.Step.{waiting}
use Rattle.replica_view.proofs.ApplyLemmas.{smaller, went_on}
use Rattle.replica_view.proofs.state.State.apply_all.Goals as goal

pub loop-smaller : goal.loop-smaller
loop-smaller c = smaller (waiting c.apply_next.new.self.order) (waiting c.loop.self.order) (c.in_ok-apply_next.ensures.fewer c.if-branch.true)

pub loop-preserved : goal.loop-preserved
loop-preserved c =
    went_on c.loop.self c.apply_next.new.self c.in_ok-apply_next.field-0 c.in_ok-apply_next.ensures.some c.if-branch.true c.in_ok-apply_next.ensures.ok
    (c.in_ok-apply_next.ensures.fewer c.if-branch.true)
    ∙ c.loop.invariant
