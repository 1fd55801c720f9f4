use Rattle.std.proofs.Common.{◌≡◌, ◌≤◌, ◌+◌, ℕ, ap, arith, length}
use Rattle.net_world.specs.World.{State, stepped}
use Rattle.net_world.specs.declared.step.PlainOutcome.{PlainOutcome}
use Rattle.net_world.proofs.PutLemmas.{grows}
use Rattle.net_world.proofs.world.PlainWorld.step.Goals as goal

pub overflow_sub-count : goal.overflow_sub-count
overflow_sub-count c =
    omega (
      arith,
      grows c.args.self.now c.args.step.now,
      ap (λ (p : State × PlainOutcome). length p.0.sent) c.in_ok-outcome.ensures.ok,
      ap (λ (s : State). length s.sent) c.self.view_is,
      ap (λ (s : State). length s.sent) c.self-2.view_is,
      c.len.ensures,
      c.len-before.ensures,
    )

pub returns-clause-sent : goal.returns-clause-sent
returns-clause-sent c =
    omega (
      arith,
      grows c.args.self.now c.args.step.now,
      ap (λ (p : State × PlainOutcome). length p.0.sent) c.in_ok-outcome.ensures.ok,
      ap (λ (s : State). length s.sent) c.self.view_is,
      ap (λ (s : State). length s.sent) c.self-2.view_is,
      c.len.ensures,
      c.len-before.ensures,
    )
