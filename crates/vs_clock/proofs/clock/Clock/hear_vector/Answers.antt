use Rattle.std.proofs.Common.{◌∙◌, ap, sym, subst}
use Rattle.tm_data.specs.Vectors.{IsVector, joined}
use Rattle.vs_clock.specs.State.{heard_vector, IsSound}
use Rattle.vs_clock.proofs.StateLemmas.{state, news_taken, hearing_sound, nothing_new}
use Rattle.vs_clock.proofs.clock.Clock.hear_vector.Goals as goal

pub invariant_of-self-then-not-is_empty : goal.invariant_of-self-then-not-is_empty
invariant_of-self-then-not-is_empty c =
    let s = state c.self.inside.writer.0 c.self.inside.scalar.0 c.self.inside.heard c.self.inside.untold in
    subst IsSound
    (sym (news_taken s c.args.vector.now c.as_slice.result.now c.in_ok-rising.rising c.join.new.self c.in_ok-untold.untold c.max-scalar.result c.greatest.result.0
    c.as_slice.ensures.same c.self.invariant c.as_slice.ensures.ascending c.in_ok-rising.ensures c.in_ok-join.ensures.value c.in_ok-untold.ensures.value c.greatest.ensures c.max-scalar.ensures))
    (hearing_sound s c.args.vector.now c.self.invariant (subst IsVector c.as_slice.ensures.same c.as_slice.ensures.ascending) c.requires)

pub returns-then-not-is_empty-clause-ok : goal.returns-then-not-is_empty-clause-ok
returns-then-not-is_empty-clause-ok c =
    let s = state c.self.inside.writer.0 c.self.inside.scalar.0 c.self.inside.heard c.self.inside.untold in
    news_taken s c.args.vector.now c.as_slice.result.now c.in_ok-rising.rising c.join.new.self c.in_ok-untold.untold c.max-scalar.result c.greatest.result.0
    c.as_slice.ensures.same c.self.invariant c.as_slice.ensures.ascending c.in_ok-rising.ensures c.in_ok-join.ensures.value c.in_ok-untold.ensures.value c.greatest.ensures c.max-scalar.ensures
    ∙ ap (λ z. heard_vector z c.args.vector.now) c.self.view_is

pub returns-clause-ok : goal.returns-clause-ok
returns-clause-ok c =
    let s = state c.self.inside.writer.0 c.self.inside.scalar.0 c.self.inside.heard c.self.inside.untold in
    let none = nothing_new c.in_ok-rising.rising c.as_slice-2.result.now c.is_empty.result c.as_slice-2.ensures.same c.is_empty.ensures c.if-not-is_empty.false in
    news_taken s c.args.vector.now c.as_slice.result.now c.in_ok-rising.rising c.self.inside.heard c.self.inside.untold c.max-scalar.result c.greatest.result.0
    c.as_slice.ensures.same c.self.invariant c.as_slice.ensures.ascending c.in_ok-rising.ensures (ap (joined c.self.inside.heard) none) (ap (joined c.self.inside.untold) none) c.greatest.ensures c.max-scalar.ensures
    ∙ ap (λ z. heard_vector z c.args.vector.now) c.self.view_is
