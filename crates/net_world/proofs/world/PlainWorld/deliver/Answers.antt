use Rattle.std.proofs.Common.{◌≡◌, ◌∙◌, ◌+◌, ◌≤◌, ℕ, Some, sym, ap, subst, arith, length}
use Rattle.std.specs.Prelude.{slice_get, ◌-◌, OnOk, IfErr}
use Rattle.net_world.specs.Inside.{IsCause}
use Rattle.net_world.specs.World.{State, acks_group, deliver}
use Rattle.net_world.specs.declared.message.PlainMessage.{PlainMessage}
use Rattle.net_world.proofs.DeliverLemmas.{held_again, further_on, acknowledged}
use Rattle.net_world.proofs.world.PlainWorld.deliver.Goals as goal

pub returns-then-seq-held-2-clause-ok : goal.returns-then-seq-held-2-clause-ok
returns-then-seq-held-2-clause-ok c =
    let count : length c.args.self.now.stored ≡ c.len-held.result = omega (arith, ap (λ (s : State). length s.stored) c.self.view_is, c.len-held.ensures) in
    let same = held_again c.args.self.now _ c.in-Some-Append.group c.seq-seq.result (ap (λ (m : PlainMessage). Some m) (sym c.in-Some-Append.field-0-is) ∙ c.in-Some-Append.ensures) c.seq-seq.ensures
    (λ next. c.if-seq-held.false (omega (arith, next, count))) (omega (arith, count)) in
    subst (λ (s : State). OnOk c.acknowledge_again.result (c.acknowledge_again.new.self ≡ s)) same c.acknowledge_again.ensures.ok

pub returns-then-seq-held-2-clause-cause : goal.returns-then-seq-held-2-clause-cause
returns-then-seq-held-2-clause-cause c =
    let count : length c.args.self.now.stored ≡ c.len-held.result = omega (arith, ap (λ (s : State). length s.stored) c.self.view_is, c.len-held.ensures) in
    let same = held_again c.args.self.now _ c.in-Some-Append.group c.seq-seq.result (ap (λ (m : PlainMessage). Some m) (sym c.in-Some-Append.field-0-is) ∙ c.in-Some-Append.ensures) c.seq-seq.ensures
    (λ next. c.if-seq-held.false (omega (arith, next, count))) (omega (arith, count)) in
    subst (λ (s : State). IfErr c.acknowledge_again.result (λ e. IsCause (length s.sent) e)) same c.acknowledge_again.ensures.cause

pub returns-else-seq-held-2-clause-ok : goal.returns-else-seq-held-2-clause-ok
returns-else-seq-held-2-clause-ok c =
    let count : length c.args.self.now.stored ≡ c.len-held.result = omega (arith, ap (λ (s : State). length s.stored) c.self.view_is, c.len-held.ensures) in
    further_on c.args.self.now _ c.in-Some-Append.group c.seq-seq.result (ap (λ (m : PlainMessage). Some m) (sym c.in-Some-Append.field-0-is) ∙ c.in-Some-Append.ensures) c.seq-seq.ensures
    (λ next. c.if-seq-held.false (omega (arith, next, count))) (omega (arith, count))

pub returns-in_ok-acknowledge-in-Some-Ack-clause-ok : goal.returns-in_ok-acknowledge-in-Some-Ack-clause-ok
returns-in_ok-acknowledge-in-Some-Ack-clause-ok c =
    c.in_ok-acknowledge-in-Some-Ack.ensures.ok
    ∙ acknowledged c.args.self.now _ c.in-Some-Ack.seq (ap (λ (m : PlainMessage). Some m) (sym c.in-Some-Ack.field-0-is) ∙ c.in-Some-Ack.ensures)
