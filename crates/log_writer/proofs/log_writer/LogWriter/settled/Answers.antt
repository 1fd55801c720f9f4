use Rattle.std.proofs.Common.{Some, None, ap, subst, sym, ◌∙◌}
use Rattle.std.specs.Option.{option_copied}
use Rattle.log_writer.specs.Log.{Log, IsLog}
use Rattle.log_writer.proofs.OrderLemmas.{settled_found, stamp_some}
use Rattle.log_writer.proofs.log_writer.LogWriter.settled.Goals as goal

pub overflow_sub-result : goal.overflow_sub-result
overflow_sub-result c =
    stamp_some c.args.self.now c.self.inside.groups.items c.durable_count.result c.in-Some.logged.now (subst IsLog c.self.view_is c.self.invariant.order) (ap (λ (l : Log). l.groups) c.self.view_is) c.durable_count.ensures
    (sym (ap option_copied c.in-Some.is) ∙ c.at.ensures)

pub returns-in-Some : goal.returns-in-Some
returns-in-Some c =
    settled_found c.args.self.now c.self.inside.groups.items c.durable_count.result c.args.scalar.0 (Some c.in-Some.logged.now) (ap (λ (l : Log). l.groups) c.self.view_is) c.durable_count.ensures
    (sym (ap option_copied c.in-Some.is) ∙ c.at.ensures)

pub returns-in-None : goal.returns-in-None
returns-in-None c =
    settled_found c.args.self.now c.self.inside.groups.items c.durable_count.result c.args.scalar.0 None (ap (λ (l : Log). l.groups) c.self.view_is) c.durable_count.ensures
    (sym (ap option_copied c.in-None.is) ∙ c.at.ensures)
