use Rattle.std.proofs.Common.{ap, sym, ◌∙◌}
use Rattle.log_writer.specs.Log.{Log, durable_count}
use Rattle.log_writer.proofs.PrefixLemmas.{durable_short}
use Rattle.log_writer.proofs.log_writer.LogWriter.durable.Goals as goal

pub stamp_at-requires : goal.stamp_at-requires
stamp_at-requires c = durable_short c.self.inside.groups.items c.durable_count.result (c.durable_count.ensures ∙ sym (ap (λ (l : Log). durable_count l.groups) c.self.view_is))
