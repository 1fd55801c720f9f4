use Rattle.std.proofs.Common.{◌≡◌, ◌∙◌, ◌+◌, ◌-◌, List, ℕ, Bool, drop, sym, ap, arith}
use Rattle.net_world.specs.World.{front}
use Rattle.net_world.proofs.FrontLemmas.{front_next, front_other, front_past}
use Rattle.net_world.proofs.world.durable_with.Goals as goal

pub returns-then-at-durable : goal.returns-then-at-durable
returns-then-at-durable c =
    c.requires.counted
    ∙ sym (front_other c.args.acks.now (c.args.seq - 1) (λ e. c.if-at-durable.true (c.saturating_sub-at.ensures ∙ e ∙ sym c.requires.counted)))

pub returns-then-at-acks : goal.returns-then-at-acks
returns-then-at-acks c = c.requires.counted ∙ sym (front_past c.args.acks.now (c.args.seq - 1) (omega arith))

pub returns : goal.returns
returns c =
    let next = front_next c.args.acks.now (c.args.seq - 1) (sym c.saturating_sub-at.ensures ∙ c.if-at-durable.false ∙ c.requires.counted) (omega arith) in
    let rest = c.count_front-more.ensures ∙ ap front c.split_at.ensures.back ∙ ap (λ (i : ℕ). front (drop (i + 1) c.args.acks.now)) c.saturating_sub-at.ensures in
    omega (arith, next, rest)
