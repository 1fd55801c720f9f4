use Rattle.std.proofs.Common.{◌≡◌, ◌∙◌, List, Some, ap, sym}
use Rattle.std.specs.List.{filter}
use Rattle.tm_base.specs.declared.message.Tag.{Tag}
use Rattle.tm_base.specs.declared.reply.Reply.TheVariants as reply
use Rattle.lock_table.specs.Tags.{tags_on}
use Rattle.master_model.specs.State.{Work}
use Rattle.master_work.specs.declared.answer.Answer.{Answer}
use Rattle.master_work.specs.Answers.{answered}
use Rattle.master_model.specs.Fates.{blocked_by_tags}
use Rattle.master_model.specs.Paths.{uses}
use Rattle.master_writes.specs.Stops.{is_reader}
use Rattle.master_writes.proofs.StopLemmas.{others_are, same_none, same_some}
use Rattle.master_writes.proofs.stops.stopped_by_any.Goals as goal

pub returns-clause-some : goal.returns-clause-some
returns-clause-some c =
    let w = c.args.work.now in
    let f = λ (t : Tag). reply.LockedRow t.txn c.args.key.now in
    let r = is_reader c.args.key.now c.args.own in
    let tags = c.as_slice.ensures ∙ (c.in_ok-tags.ensures ∙ ap (λ (v : Work). tags_on v.tags c.args.page.0) c.work.view_is) in
    same_some c.stopped_by_tags.result _ _ (λ (a : Answer). Some (answered c.stopped_by_tags.new.work a)) (ap (blocked_by_tags (uses w c.args.path.now) f) (others_are w.tags c.args.page.0 c.args.key.now c.args.own ∙ ap (filter r) (sym tags)))
    c.stopped_by_tags.ensures.some

pub returns-clause-none : goal.returns-clause-none
returns-clause-none c =
    let w = c.args.work.now in
    let f = λ (t : Tag). reply.LockedRow t.txn c.args.key.now in
    let r = is_reader c.args.key.now c.args.own in
    let tags = c.as_slice.ensures ∙ (c.in_ok-tags.ensures ∙ ap (λ (v : Work). tags_on v.tags c.args.page.0) c.work.view_is) in
    same_none c.stopped_by_tags.result _ _ (ap (blocked_by_tags (uses w c.args.path.now) f) (others_are w.tags c.args.page.0 c.args.key.now c.args.own ∙ ap (filter r) (sym tags)))
    c.stopped_by_tags.ensures.none
