use Rattle.std.proofs.Common.{◌≡◌, ◌∙◌, ◌++◌, ◌∷◌, [], ◌+◌, ◌<◌, Some, ap, rules, arith, length, get_or, take}
use Rattle.std.specs.Prelude.{slice_get}
use Rattle.std.proofs.lemmas.List.{take_more}
use Rattle.std.proofs.lemmas.Option.{slice_get-get_or}
use Rattle.event_cuts.specs.Places.{txn_of, with_place}
use Rattle.event_cuts.proofs.PlaceLemmas.{none_yet, one_more}
use Rattle.event_cuts.proofs.own_events.own_events.Goals as goal

pub loop-at-init : goal.loop-at-init
loop-at-init c = (omega arith, none_yet c.args.events.now c.new-own.result c.new-own.ensures)

pub loop-at-preserved : goal.loop-at-preserved
loop-at-preserved c =
    let events = c.args.events.now in
    let i = c.loop-at.at in
    let e = c.index-events-at.result in
    let test = c.loop-at-test.true in
    let lt : i < length events = omega (arith, test) in
    let at : get_or events i e ≡ e = search rules in
    let here : slice_get events i ≡ Some e = slice_get-get_or events i e lt ∙ ap Some at in
    let more : take (i + 1) events ≡ take i events ++ e ∷ [] = take_more events i e lt ∙ ap (λ x. take i events ++ x ∷ []) at in
    let new : c.note.new.own ≡ with_place c.loop-at.own (txn_of e.kind) i = c.in_ok-note.ensures ∙ ap (λ t. with_place c.loop-at.own t i) c.txn_of.ensures in
    (omega (arith, lt), one_more events c.loop-at.own c.note.new.own i e c.loop-at.invariant.1 here more new)
