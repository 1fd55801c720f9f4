use Rattle.std.proofs.Common.{ap, nat_eq, ◌∙◌}
use Rattle.std.proofs.lemmas.Result.{on_ok_weaker, on_err_weaker}
use Rattle.indexmap.specs.IndexMap.{insert_entry}
use Rattle.store_model.specs.LogState.{log_in, put}
use Rattle.store_model.specs.LogStep.{with_group}
use Rattle.log_store.proofs.LogsLemmas.{changed, inserted, unchanged}
use Rattle.log_store.proofs.logs.Logs.keep.Goals as goal

pub returns-in_default-clause-ok : goal.returns-in_default-clause-ok
returns-in_default-clause-ok c =
    inserted (λ l. with_group l c.args.group) c.self.inside.map.entries c.insert.new.self.entries c.args.group.writer.0 c.push.new.self c.in_default.ensures.value
    (c.in_ok-insert.ensures.entries ∙ ap (λ m. insert_entry nat_eq m.entries c.args.group.writer.0 c.push.new.self) c.get_mut.follows.holds-at-none)
    (c.in_ok-push.ensures.ok ∙ ap (λ l. with_group l c.args.group) c.new-log.ensures)
    ∙ ap (λ es. put es c.args.group.writer.0 (with_group (log_in es c.args.group.writer.0) c.args.group)) c.self.view_is

pub returns-clause-ok : goal.returns-clause-ok
returns-clause-ok c = on_ok_weaker c.push-2.result (λ is.
    changed (λ l. with_group l c.args.group) c.self.inside.map.entries (c.get_mut.follows.lender c.push-2.new.self).entries c.args.group.writer.0 c.in-Some.log.now c.push-2.new.self c.in-Some.ensures.value (c.get_mut.follows.holds c.push-2.new.self).0 is
    ∙ ap (λ es. put es c.args.group.writer.0 (with_group (log_in es c.args.group.writer.0) c.args.group)) c.self.view_is) c.push-2.ensures.ok

pub returns-clause-err : goal.returns-clause-err
returns-clause-err c = on_err_weaker c.push-2.result (λ is.
    unchanged c.self.inside.map.entries (c.get_mut.follows.lender c.push-2.new.self).entries c.args.group.writer.0 c.in-Some.log.now c.push-2.new.self c.in-Some.ensures.value (c.get_mut.follows.holds c.push-2.new.self).0 is
    ∙ c.self.view_is) c.push-2.ensures.err
