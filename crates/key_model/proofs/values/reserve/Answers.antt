use Rattle.std.proofs.Common.{◌∙◌, None, sym, ap, subst, rules}
use Rattle.std.specs.FinMap as fin
use Rattle.key_model.specs.Inside.{HasPlaces}
use Rattle.key_model.proofs.ValuedLemmas.{reserve_turn}
use Rattle.key_model.proofs.PlaceLemmas.{copied_none}
use Rattle.key_model.proofs.values.reserve.Goals as goal

pub loop-key-preserved-then-is_none : goal.loop-key-preserved-then-is_none
loop-key-preserved-then-is_none c =
    let turn = reserve_turn c.loop-key.places c.insert.new.self c.args.places.now c.loop-key.key-iterator c.next.new.self (fin.entries c.args.writes.now) c.in-Some.key.now c.in-Some.value.now
    c.in-Some.ensures.steps (c.in_ok-insert.ensures.ok ∙ ap (λ k. fin.insert c.loop-key.places k None) c.in_ok-copy.ensures)
    (sym c.get.ensures ∙ copied_none c.get.result (search rules))
    c.loop-key.invariant.2 c.loop-key.invariant.3 in
    (tt, tt, turn.0, turn.1)

pub returns-clause-ready : goal.returns-clause-ready
returns-clause-ready c = c.loop-key.invariant.3 c.loop-key.places (λ q h. h) (subst (HasPlaces c.loop-key.places) (sym c.in-None.ensures.steps.0) tt)
