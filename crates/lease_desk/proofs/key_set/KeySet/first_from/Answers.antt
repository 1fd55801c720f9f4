use Rattle.std.proofs.Common.{ap, sym, ◌∙◌}
use Rattle.lease_desk.specs.Inside.{Slots}
use Rattle.lease_desk.proofs.KeyLemmas.{place_in, first_there, first_first, first_none}
use Rattle.lease_desk.proofs.key_set.KeySet.first_from.Goals as goal

pub returns-in-Some-clause-there : goal.returns-in-Some-clause-there
returns-in-Some-clause-there c =
    first_there c.self.inside.keys.items c.deref.result.now c.args.self.now.numbers c.args.least c.place-place.result c.in-Some.key.now c.deref.ensures.value (ap (λ (s : Slots). s.numbers) c.self.view_is) (place_in c.as_slice.result.now c.deref.result.now c.args.least c.place-place.result
    (c.as_slice.ensures.value ∙ sym c.deref.ensures.value) c.place-place.ensures) c.in-Some.ensures.lookup.3.0 (c.in-Some.ensures.lookup.3.1 0)

pub returns-in-Some-clause-first : goal.returns-in-Some-clause-first
returns-in-Some-clause-first c =
    first_first c.self.inside.keys.items c.deref.result.now c.args.self.now.numbers c.args.least c.place-place.result c.in-Some.key.now c.self.invariant.0 c.deref.ensures.value (ap (λ (s : Slots). s.numbers) c.self.view_is) (place_in c.as_slice.result.now c.deref.result.now c.args.least c.place-place.result
    (c.as_slice.ensures.value ∙ sym c.deref.ensures.value) c.place-place.ensures) c.in-Some.ensures.lookup.3.0 (c.in-Some.ensures.lookup.3.1 0)

pub returns-in-None-clause-none : goal.returns-in-None-clause-none
returns-in-None-clause-none c =
    first_none c.self.inside.keys.items c.deref.result.now c.args.self.now.numbers c.args.least c.place-place.result c.deref.ensures.value (ap (λ (s : Slots). s.numbers) c.self.view_is) (place_in c.as_slice.result.now c.deref.result.now c.args.least c.place-place.result
    (c.as_slice.ensures.value ∙ sym c.deref.ensures.value) c.place-place.ensures) c.in-None.ensures.lookup.3
