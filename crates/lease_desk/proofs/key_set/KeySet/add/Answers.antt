use Rattle.std.specs.Prelude.{◌<◌, vec_len, vec_capacity, if◌then◌else◌}
use Rattle.std.specs.Result.{is_ok}
use Rattle.std.proofs.Common.{◌≡◌, ◌+◌, Bool, true, length, ap, ◌∙◌, arith}
use Rattle.lease_desk.specs.Inside.{Slots}
use Rattle.lease_desk.proofs.KeyLemmas.{added_now, added_rising, inserted_is}
use Rattle.lease_desk.proofs.key_set.KeySet.add.Goals as goal

pub invariant_of-self : goal.invariant_of-self
invariant_of-self c =
    let room : vec_len c.self.inside.keys < vec_capacity c.self.inside.keys = omega (arith, c.requires.room, ap (λ (s : Slots). length s.numbers) c.self.view_is, ap (λ (s : Slots). s.room) c.self.view_is) in
    let done : is_ok c.insert.result ≡ true = c.insert.ensures.succeeds room in (
      added_rising c.self.inside.keys.items c.insert.new.self.items c.as_slice.result.now c.args.self.now.numbers c.args.key c.place-place.result c.self.invariant.0 c.as_slice.ensures.value (ap (λ (s : Slots). s.numbers) c.self.view_is)
          c.requires.absent c.place-place.ensures
          (inserted_is c.self.inside.keys.items c.insert.new.self.items c.args.key c.place-place.result (is_ok c.insert.result) c.insert.ensures.items done),
      omega (arith, c.insert.ensures.len ∙ ap (λ (b : Bool). if b then vec_len c.self.inside.keys + 1 else vec_len c.self.inside.keys) done, (c.insert.ensures.in_place room).1.0, room),
    )

pub returns-clause-there : goal.returns-clause-there
returns-clause-there c =
    let room : vec_len c.self.inside.keys < vec_capacity c.self.inside.keys = omega (arith, c.requires.room, ap (λ (s : Slots). length s.numbers) c.self.view_is, ap (λ (s : Slots). s.room) c.self.view_is) in
    added_now c.self.inside.keys.items c.insert.new.self.items c.as_slice.result.now c.args.self.now.numbers c.args.key c.place-place.result c.as_slice.ensures.value (ap (λ (s : Slots). s.numbers) c.self.view_is) c.place-place.ensures
    (inserted_is c.self.inside.keys.items c.insert.new.self.items c.args.key c.place-place.result (is_ok c.insert.result) c.insert.ensures.items (c.insert.ensures.succeeds room))

pub returns-clause-count : goal.returns-clause-count
returns-clause-count c =
    let room : vec_len c.self.inside.keys < vec_capacity c.self.inside.keys = omega (arith, c.requires.room, ap (λ (s : Slots). length s.numbers) c.self.view_is, ap (λ (s : Slots). s.room) c.self.view_is) in
    let done : is_ok c.insert.result ≡ true = c.insert.ensures.succeeds room in
    omega (arith, c.insert.ensures.len ∙ ap (λ (b : Bool). if b then vec_len c.self.inside.keys + 1 else vec_len c.self.inside.keys) done, ap (λ (s : Slots). length s.numbers) c.self.view_is)

pub returns-clause-room : goal.returns-clause-room
returns-clause-room c =
    let room : vec_len c.self.inside.keys < vec_capacity c.self.inside.keys = omega (arith, c.requires.room, ap (λ (s : Slots). length s.numbers) c.self.view_is, ap (λ (s : Slots). s.room) c.self.view_is) in
    omega (arith, (c.insert.ensures.in_place room).1.0, ap (λ (s : Slots). s.room) c.self.view_is)
