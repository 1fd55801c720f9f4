use Rattle.std.proofs.Common.{◌≡◌, ◌∙◌, ◌++◌, ◌∷◌, [], ◌+◌, ◌<◌, sym, ap, subst, rules, length, get_or, take, cond}
use Rattle.std.proofs.lemmas.List.{take_more}
use Rattle.std.specs.Prelude.{is_some}
use Rattle.std.specs.FinMap as fin
use Rattle.tm_data.specs.Orders.{txn_cmp}
use Rattle.key_model.specs.Cuts.{is_in, of_vector, within}
use Rattle.event_cuts.specs.Inside.{HasEnds}
use Rattle.event_cuts.proofs.PutLemmas.{gathered_more, event_ended}
use Rattle.event_cuts.proofs.ended.ended_in.Goals as goal

pub loop-event-init : goal.loop-event-init
loop-event-init c t = ap (λ m. is_some (fin.get m t)) c.new-ended.ensures ∙ ap is_some (fin.get-empty txn_cmp t)

pub loop-event-preserved : goal.loop-event-preserved
loop-event-preserved c =
    let events = c.args.events.now in
    let i = c.loop-event.event-index in
    let e = c.event-item.result in
    let cut = of_vector c.args.cut.now in
    let past = within cut (take i events) in
    let same : c.as_slice-event-items.result.now ≡ events = c.as_slice-event-items.ensures in
    let at : get_or events i e ≡ e = ap (λ xs. get_or xs i e) (sym same) ∙ (search rules) in
    let more : within cut (take (i + 1) events) ≡ cond (is_in cut e) (e ∷ past) past =
    ap (within cut) (take_more events i e (subst (λ xs. i < length xs) same c.loop-event-test.true) ∙ ap (λ x. take i events ++ x ∷ []) at) ∙ gathered_more cut [] (take i events) e in
    subst (HasEnds c.add_event.new.ended) (sym more) (event_ended c.loop-event.ended c.add_event.new.ended cut e past (search rules) c.loop-event.invariant)
