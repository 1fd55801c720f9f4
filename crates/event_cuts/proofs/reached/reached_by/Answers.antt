use Rattle.std.proofs.Common.{◌≡◌, ◌∙◌, ◌∷◌, [], ◌+◌, ◌-◌, ◌<◌, sym, ap, subst, rules, arith, length, get_or, drop}
use Rattle.std.proofs.lemmas.List.{drop_more, drop_all}
use Rattle.key_model.specs.Causes.{reaching}
use Rattle.event_cuts.specs.Inside.{HasFound}
use Rattle.event_cuts.proofs.FoundLemmas.{found_alone, found_next}
use Rattle.event_cuts.proofs.reached.reached_by.Goals as goal

pub loop-at-init : goal.loop-at-init
loop-at-init c =
    let none : drop (length c.args.before.now) c.args.before.now ≡ [] = drop_all (length c.args.before.now) c.args.before.now (omega arith) in
    (omega arith, subst (λ xs. HasFound c.in_ok-reached.reached (reaching c.args.events.now xs c.args.event.now)) (sym none) (found_alone c.in_ok-reached.reached c.args.event.now c.in_ok-reached.ensures))

pub loop-at-preserved : goal.loop-at-preserved
loop-at-preserved c =
    let before = c.args.before.now in
    let i = c.loop-at.at - 1 in
    let e = c.index-before-at.result in
    let test = c.loop-at-test.true in
    let below = c.loop-at.invariant.0 in
    let lt : i < length before = omega (arith, test, below) in
    let next : i + 1 ≡ c.loop-at.at = omega (arith, test) in
    let at : get_or before i e ≡ e = search rules in
    let more : drop i before ≡ e ∷ drop c.loop-at.at before = drop_more before i e lt ∙ ap (λ x. x ∷ drop (i + 1) before) at ∙ ap (λ n. e ∷ drop n before) next in (
      omega (arith, lt),
      subst (λ xs. HasFound c.look.new.reached (reaching c.args.events.now xs c.args.event.now)) (sym more)
          (found_next c.args.events.now c.loop-at.reached c.look.new.reached (reaching c.args.events.now (drop c.loop-at.at before) c.args.event.now) e (search rules) c.loop-at.invariant.1),
    )
