use Rattle.std.proofs.Common.{◌≡◌, ◌∙◌, List, ℕ, None, Option, ap, subst, sym}
use Rattle.std.specs.Prelude.{IfNone}
use Rattle.std.specs.List.{filter}
use Rattle.tm_base.specs.declared.message.Tag.{Tag}
use Rattle.tm_base.specs.declared.reply.Reply.TheVariants as reply
use Rattle.master_work.specs.declared.answer.Answer.{Answer}
use Rattle.master_model.specs.Fates.{blocked, blocked_by_tags}
use Rattle.master_model.specs.Paths.{uses}
use Rattle.master_writes.specs.Stops.{is_reader}
use Rattle.master_writes.proofs.StopLemmas.{passes, same_some}
use Rattle.master_writes.proofs.stops.+stopped_by_tags.Goals as goal

pub returns-in-None-clause-some : goal.returns-in-None-clause-some
returns-in-None-clause-some n c =
    let w = uses c.args.work.now c.args.path.now in
    let f = λ (t : Tag). reply.LockedRow t.txn c.args.key.now in
    let r = is_reader c.args.key.now c.args.own in
    let first = c.in-Some.first.now in
    let rest = c.in-Some.rest.now in
    let none : blocked w first.txn (reply.LockedRow first.txn c.in_ok-copy.field-0) ≡ None = subst (λ (o : Option Answer). IfNone o (blocked w first.txn (reply.LockedRow first.txn c.in_ok-copy.field-0) ≡ None)) c.in-None.is c.in_ok-answer.ensures.none in
    let same : c.blocked.new.work ≡ c.args.work.now = subst (λ (o : Option Answer). IfNone o (c.blocked.new.work ≡ c.args.work.now)) c.in-None.is c.in_ok-answer.ensures.same in
    let free = sym (ap (λ (k : List ℕ). blocked w first.txn (reply.LockedRow first.txn k)) c.in_ok-copy.ensures) ∙ none in
    same_some c.stopped_by_tags-in-None.result _ _ _ (passes w f r first rest c.args.tags.now c.in-Some.ensures.cases.0 (sym c.if-not-is_reader.ensures) free ∙ (λ i. blocked_by_tags (uses (sym same i) c.args.path.now) f (filter r rest)))
    c.stopped_by_tags-in-None.ensures.some
