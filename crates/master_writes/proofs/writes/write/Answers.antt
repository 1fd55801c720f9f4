use Rattle.std.proofs.Common.{◌≡◌, ◌∙◌, sym}
use Rattle.tm_base.specs.declared.reply.Reply.TheVariants as reply
use Rattle.master_writes.proofs.WriteLemmas.{writes_are}
use Rattle.master_writes.proofs.writes.write.Goals as goal

pub returns-clause-ok : goal.returns-clause-ok
returns-clause-ok c own at =
    let x = c.args.writing.now in
    (λ i. record { work = c.use_path-2.ensures i; reply = reply.Done; groups = c.in_ok-groups.groups; messages = c.new.ensures i })
    ∙ writes_are c.args.work.now x.path x.session own x.row x.change c.log_written.new.work c.in_ok-groups.groups (sym c.if-not-has_numbers.ensures) (sym c.if-not-has_stamps.ensures) (c.in_ok-groups.ensures.ok own at)
