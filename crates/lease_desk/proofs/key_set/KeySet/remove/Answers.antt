use Rattle.std.proofs.Common.{ap, length, arith}
use Rattle.lease_desk.specs.Inside.{Slots}
use Rattle.lease_desk.proofs.KeyLemmas.{rising_taken, taken_now, taken_within}
use Rattle.lease_desk.proofs.key_set.KeySet.remove.Goals as goal

pub remove-requires : goal.remove-requires
remove-requires c =
    omega (
      arith,
      taken_within c.self.inside.keys.items c.as_slice.result.now c.args.self.now.numbers c.args.key c.place-place.result c.self.invariant.0 c.as_slice.ensures.value (ap (λ (s : Slots). s.numbers) c.self.view_is) c.requires
          c.place-place.ensures,
      c.as_slice.ensures.len,
    )

pub invariant_of-self : goal.invariant_of-self
invariant_of-self c =
    (rising_taken c.self.inside.keys.items c.remove.new.self.items c.place-place.result c.self.invariant.0 c.remove.ensures.items, omega (arith, c.remove.ensures.len, c.remove.ensures.capacity, c.self.invariant.1))

pub returns-clause-gone : goal.returns-clause-gone
returns-clause-gone c =
    taken_now c.self.inside.keys.items c.remove.new.self.items c.as_slice.result.now c.args.self.now.numbers c.args.key c.place-place.result c.self.invariant.0 c.as_slice.ensures.value (ap (λ (s : Slots). s.numbers) c.self.view_is) c.requires
    c.place-place.ensures c.remove.ensures.items

pub returns-clause-count : goal.returns-clause-count
returns-clause-count c = omega (arith, c.remove.ensures.len, ap (λ (s : Slots). length s.numbers) c.self.view_is)
