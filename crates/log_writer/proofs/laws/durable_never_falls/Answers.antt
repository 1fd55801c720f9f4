use Rattle.log_writer.proofs.OrderLemmas.{durable_acked, durable_appended}
use Rattle.log_writer.proofs.laws.durable_never_falls.Goals as goal

pub returns-clause-acked : goal.returns-clause-acked
returns-clause-acked c = durable_acked

pub returns-clause-appended : goal.returns-clause-appended
returns-clause-appended c = durable_appended
