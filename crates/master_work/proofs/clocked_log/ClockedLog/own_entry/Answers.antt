use Rattle.std.proofs.Common.{ap, sym, arith}
use Rattle.log_writer.specs.Log.{durable_stamp}
use Rattle.master_work.specs.Parts.{Timed}
use Rattle.master_work.proofs.LogLemmas.{durable_within}
use Rattle.master_work.proofs.clocked_log.ClockedLog.own_entry.Goals as goal

pub returns-clause-fits : goal.returns-clause-fits
returns-clause-fits c =
    let l = c.self.inside in
    omega (arith, durable_within l.log l.clock.scalar c.last_seq.ensures.order c.self.invariant, c.scalar.ensures.fits, c.scalar.ensures.value, c.durable.ensures)
