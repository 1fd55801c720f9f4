use Rattle.std.proofs.Common.{None, ap, ◌∙◌}
use Rattle.store_model.specs.PageStep.{brought, front_after, in_turn}
use Rattle.page_store.specs.Answers.{TakesPart}
use Rattle.version_chain.specs.Content.{Content}
use Rattle.page_store.proofs.IntakeLemmas.{group_left, group_stopped, group_taken, on_err}
use Rattle.page_store.proofs.intake.take_groups.Goals as goal
use Rattle.page_store.proofs.intake.take_groups.Goals.{then-is_next+in_ok-take_records, else-is_next}

pub returns-in_err-take_records-clause-err : goal.returns-in_err-take_records-clause-err
returns-in_err-take_records-clause-err c =
    let all = brought c.args.share.number c.args.share.stores (in_turn c.args.writer.0 c.args.first c.args.groups.now) in
    on_err c.from_residual.result (TakesPart all c.args.pages.now.records c.take_records.new.pages.records)
    (group_stopped c.args.share.number c.args.share.stores c.args.writer.0 c.loop-group.next c.args.groups.now c.loop-group.group-index c.group-item.result c.is_next.result
    c.as_slice-records.result.now c.loop-group.pages.records c.take_records.new.pages.records all c.args.pages.now.records
    c.loop-group-test.true c.group-item.is c.is_next.ensures c.if-is_next.true c.as_slice-records.ensures c.in_err-take_records.ensures.err c.loop-group.invariant.0)

pub loop-group-preserved : goal.loop-group-preserved
loop-group-preserved c =
    let all = brought c.args.share.number c.args.share.stores (in_turn c.args.writer.0 c.args.first c.args.groups.now) in
    let last = front_after None (in_turn c.args.writer.0 c.args.first c.args.groups.now) in
    elim c.if-is_next.branch [
      | then-is_next+in_ok-take_records w ↦ group_taken c.args.share.number c.args.share.stores c.args.writer.0 c.loop-group.next c.args.groups.now c.loop-group.group-index c.group-item.result
          c.is_next.result w.as_slice-records.result.now c.loop-group.pages.records c.if-is_next.pages.records c.if-is_next.next c.loop-group.front c.if-is_next.front all c.args.pages.now.records last
          c.loop-group-test.true c.group-item.is c.is_next.ensures w.if-is_next.true w.as_slice-records.ensures (ap (λ (p : Content). p.records) w.pages-is ∙ w.in_ok-take_records.ensures.ok) w.next-is w.front-is c.loop-group.invariant
      | else-is_next w ↦ group_left c.args.share.number c.args.share.stores c.args.writer.0 c.loop-group.next c.args.groups.now c.loop-group.group-index c.group-item.result
          c.is_next.result c.loop-group.pages.records c.if-is_next.pages.records c.if-is_next.next c.loop-group.front c.if-is_next.front all c.args.pages.now.records last
          c.loop-group-test.true c.group-item.is c.is_next.ensures w.if-is_next.false (ap (λ (p : Content). p.records) w.pages-is) w.next-is w.front-is c.loop-group.invariant
    ]
