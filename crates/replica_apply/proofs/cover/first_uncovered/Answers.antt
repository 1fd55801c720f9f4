use Rattle.std.proofs.Common.{◌≡◌, ◌∙◌, sym, ap}
use Rattle.tm_data.specs.Vectors.{joined}
use Rattle.replica_model.specs.Order.{uncovered}
use Rattle.replica_apply.specs.Inside.{joint, writer_in}
use Rattle.replica_apply.proofs.JoinLemmas.{joint_is, told}
use Rattle.replica_apply.proofs.cover.first_uncovered.Goals as goal

pub returns-in_err-writer : goal.returns-in_err-writer
returns-in_err-writer c =
    let is : uncovered c.args.frontier.now (joined c.args.left.now c.args.right.now) ≡ joint c.args.left.now c.args.right.now c.lesser.result =
    told c.args.frontier.now c.args.left.now c.args.right.now c.uncovered_in.ensures.vector c.uncovered_in-2.ensures.vector c.writer_of-one.result c.writer_of-other.result
    c.lesser.result (c.writer_of-one.ensures ∙ ap writer_in c.uncovered_in.ensures.first) (c.writer_of-other.ensures ∙ ap writer_in c.uncovered_in-2.ensures.first) c.lesser.ensures in
    c.from_residual.ensures ∙ ap (joint c.args.left.now c.args.right.now) (sym c.in_err-writer.was) ∙ sym is

pub returns : goal.returns
returns c =
    let is : uncovered c.args.frontier.now (joined c.args.left.now c.args.right.now) ≡ joint c.args.left.now c.args.right.now c.lesser.result =
    told c.args.frontier.now c.args.left.now c.args.right.now c.uncovered_in.ensures.vector c.uncovered_in-2.ensures.vector c.writer_of-one.result c.writer_of-other.result
    c.lesser.result (c.writer_of-one.ensures ∙ ap writer_in c.uncovered_in.ensures.first) (c.writer_of-other.ensures ∙ ap writer_in c.uncovered_in-2.ensures.first) c.lesser.ensures in
    joint_is c.args.left.now c.args.right.now c.in_ok-writer.writer c.max.result c.get.result.0 c.get-2.result.0 c.max.ensures c.get.ensures c.get-2.ensures
    ∙ ap (joint c.args.left.now c.args.right.now) (sym c.in_ok-writer.was) ∙ sym is
