use Rattle.log_writer.proofs.OrderLemmas.{marks_acked, marks_appended}
use Rattle.log_writer.proofs.laws.marks_come_from_acknowledgements.Goals as goal

pub returns-clause-acked : goal.returns-clause-acked
returns-clause-acked c = marks_acked

pub returns-clause-appended : goal.returns-clause-appended
returns-clause-appended c = marks_appended
