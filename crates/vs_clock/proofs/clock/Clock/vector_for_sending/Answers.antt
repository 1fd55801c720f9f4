use Rattle.std.proofs.Common.{◌≤◌, ◌-◌, ◌^◌, ◌∙◌, ap, sym, subst, List}
use Rattle.tm_data.specs.declared.vector.VectorEntry.{VectorEntry}
use Rattle.tm_data.specs.Vectors.{greatest, joined}
use Rattle.vs_clock.proofs.StateLemmas.{state, sending_fits}
use Rattle.vs_clock.proofs.clock.Clock.vector_for_sending.Goals as goal

pub returns-clause-fits : goal.returns-clause-fits
returns-clause-fits c =
    subst (λ (z : List VectorEntry). greatest z ≤ 2 ^ 63 - 1) (sym (c.in_ok-vector.ensures.value ∙ ap (joined c.self.inside.heard) c.in_ok-own.ensures))
    (sending_fits (state c.self.inside.writer.0 c.self.inside.scalar.0 c.self.inside.heard c.self.inside.untold) c.args.durable.0 c.self.invariant c.requires)
