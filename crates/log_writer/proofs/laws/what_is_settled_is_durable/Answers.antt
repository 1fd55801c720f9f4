use Rattle.log_writer.proofs.OrderLemmas.{settled_durable}
use Rattle.log_writer.proofs.laws.what_is_settled_is_durable.Goals as goal

pub returns : goal.returns
returns c = settled_durable
