use Rattle.std.proofs.Common.{ap, ◌∙◌, min}
use Rattle.log_writer.specs.Log.{Log, durable_count}
use Rattle.log_writer.proofs.PrefixLemmas.{least_reached}
use Rattle.log_writer.proofs.log_writer.LogWriter.durable_count.Goals as goal

pub returns : goal.returns
returns c =
    c.min-2.ensures ∙ (ap (λ n. min n c.self.inside.third) c.min.ensures
    ∙ ((λ i. min (min (c.self.invariant.first_is i) (c.self.invariant.second_is i)) (c.self.invariant.third_is i))
    ∙ (least_reached c.self.inside.groups.items ∙ ap (λ (l : Log). durable_count l.groups) c.self.view_is)))
