use Rattle.std.proofs.Common.{◌≡◌, ◌∙◌, inr, subst, string_bytes}
use Rattle.tm_ports.specs.Faults.{SinkCause}
use Rattle.taurus.proofs.PerformLemmas.{interrupted}
use Rattle.taurus.proofs.execute.perform.Goals as goal

pub returns-in-Err-Failed-clause-cause : goal.returns-in-Err-Failed-clause-cause
returns-in-Err-Failed-clause-cause g c =
    let K = g.K.Sink in (
      interrupted c.args.world.now c.args.line.now c.execute.new.world (string_bytes c.in-Ok.text) c.as_bytes.result.now (K.taken c.args.sink.now) (K.taken c.write_all.new.sink) c.in-Ok.ensures.ok c.as_bytes.ensures.value c.in-Err-Failed.ensures.err,
      subst (λ e. SinkCause e (K.count c.args.sink.now) (K.count c.write_all.new.sink)) c.in-Err-Failed.field-0-is c.in-Err-Failed.ensures.cause.cause,
    )

pub returns-clause-cause : goal.returns-clause-cause
returns-clause-cause g c =
    let K = g.K.Sink in
    inr (interrupted c.args.world.now c.args.line.now c.execute.new.world (string_bytes c.in-Ok.text) c.as_bytes.result.now (K.taken c.args.sink.now) (K.taken c.write_all.new.sink) c.in-Ok.ensures.ok c.as_bytes.ensures.value c.in-Err-NoMemory.ensures.err)
