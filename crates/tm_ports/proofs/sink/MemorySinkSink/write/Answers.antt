use Rattle.std.proofs.Common.{◌≡◌, sym, ap, arith}
use Rattle.tm_ports.specs.Calls.{risen}
use Rattle.tm_ports.proofs.sink.MemorySinkSink.write.Goals as goal

pub returns-then-fails_next-clause-cause : goal.returns-then-fails_next-clause-cause
returns-then-fails_next-clause-cause c =
    let before : c.args.self.now.calls.failed ≡ c.self.inside.plan.failed = ap (λ s. s.calls.failed) (sym c.self.view_is) in
    let now : c.fail.new.self.failed ≡ risen c.self.inside.plan.failed = ap (λ p. p.failed) c.fail.ensures.value in
    record { later = omega (arith, before, c.fail.ensures.later); cause = omega (arith, before, now) }
