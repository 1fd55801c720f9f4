use Rattle.std.proofs.Common.{ap, arith, sym, ◌∙◌}
use Rattle.log_writer.specs.Log.{Log, durable_count}
use Rattle.log_writer.proofs.PrefixLemmas.{durable_short}
use Rattle.log_writer.proofs.log_writer.LogWriter.durable_seq.Goals as goal

pub overflow_add-result : goal.overflow_add-result
overflow_add-result c =
    grind (arith, c.self.invariant.short, durable_short c.self.inside.groups.items c.durable_count.result (c.durable_count.ensures ∙ sym (ap (λ (l : Log). durable_count l.groups) c.self.view_is)))

pub overflow_cast-result : goal.overflow_cast-result
overflow_cast-result c =
    grind (arith, c.self.invariant.short, durable_short c.self.inside.groups.items c.durable_count.result (c.durable_count.ensures ∙ sym (ap (λ (l : Log). durable_count l.groups) c.self.view_is)))
