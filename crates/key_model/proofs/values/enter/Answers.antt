use Rattle.std.proofs.Common.{◌≡◌, ◌∙◌, sym, ap, subst}
use Rattle.std.specs.Prelude.{T}
use Rattle.std.specs.FinMap as fin
use Rattle.tm_data.specs.Orders.{row_cmp}
use Rattle.key_model.specs.Inside.{valued, HasPlaces}
use Rattle.key_model.specs.After.{with_all}
use Rattle.key_model.proofs.ValuedLemmas.{place_there, enter_turn, leave_turn}
use Rattle.key_model.proofs.PlaceLemmas.{ok_only}
use Rattle.key_model.proofs.values.enter.Goals as goal

pub loop-key-init : goal.loop-key-init
loop-key-init c =
    let is : c.into_iter-key-iterator.result ≡ fin.entries c.args.writes = c.into_iter-key-iterator.ensures.into_iter_gives ∙ c.into_rows-key-items.ensures.rest in (
      tt,
      tt,
      subst (λ es. T (fin.is_sorted row_cmp es)) (sym is) (fin.entries_sorted c.args.writes),
      subst (HasPlaces c.args.places.now) (sym is) c.requires,
      ap (with_all (valued c.args.places.now)) is,
    )

pub loop-key-preserved-then-is_some : goal.loop-key-preserved-then-is_some
loop-key-preserved-then-is_some c =
    let some = sym c.is_some.ensures ∙ c.if-is_some.true in
    let turn = enter_turn c.loop-key.places c.insert.new.self c.loop-key.key-iterator c.next.new.self c.in-Some.key c.in-Some.value
    (with_all (valued c.args.places.now) (fin.entries c.args.writes)) c.in-Some.ensures.steps c.loop-key.invariant.2 c.loop-key.invariant.3 c.loop-key.invariant.4 some
    (ok_only c.insert.result c.insert.ensures.ok c.insert.ensures.absent
    (place_there c.loop-key.places c.loop-key.key-iterator c.next.new.self c.in-Some.key c.in-Some.value c.in-Some.ensures.steps c.loop-key.invariant.3 some)) in
    (tt, tt, turn.0, turn.1, turn.2)

pub loop-key-preserved : goal.loop-key-preserved
loop-key-preserved c =
    let turn = leave_turn c.loop-key.places c.remove.new.self c.loop-key.key-iterator c.next.new.self c.in-Some.key c.in-Some.value
    (with_all (valued c.args.places.now) (fin.entries c.args.writes)) c.in-Some.ensures.steps c.loop-key.invariant.2 c.loop-key.invariant.3 c.loop-key.invariant.4
    (sym c.is_some.ensures ∙ c.if-is_some.false) c.remove.ensures.removed in
    (tt, tt, turn.0, turn.1, turn.2)
