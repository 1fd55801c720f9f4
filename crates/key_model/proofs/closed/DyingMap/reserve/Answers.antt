use Rattle.std.proofs.Common.{◌≡◌, ◌∷◌, ◌∙◌, None, sym, ap, subst, rules, drop, length, get_or, ◌<◌, ◌≤◌, ◌+◌}
use Rattle.std.proofs.lemmas.List.{drop_more, drop_all}
use Rattle.std.specs.Prelude.{IsSome}
use Rattle.std.specs.FinMap as fin
use Rattle.key_model.specs.State.{dying_cmp-total, dying_cmp-exact}
use Rattle.key_model.specs.Inside.{there}
use Rattle.key_model.proofs.PlaceLemmas.{Reserves, reserves_new, reserves_old, reserved, same_there, none_where_not}
use Rattle.key_model.proofs.closed.DyingMap.reserve.Goals as goal
use Rattle.key_model.proofs.closed.DyingMap.reserve.Goals.{then-not-has+in_ok-open, else-not-has}

pub loop-dying-preserved : goal.loop-dying-preserved
loop-dying-preserved c =
    let rows = c.args.rows.now in
    let i = c.loop-dying.dying-index in
    let k = c.dying-item.result in
    let m = c.loop-dying.self in
    let inv = c.loop-dying.invariant in
    let same : c.as_slice-dying-items.result.now ≡ rows = c.as_slice-dying-items.ensures in
    let at : get_or rows i k ≡ k = ap (λ xs. get_or xs i k) (sym same) ∙ (search rules) in
    let cut : drop i rows ≡ k ∷ drop (i + 1) rows = drop_more rows i k (subst (λ xs. i < length xs) same c.loop-dying-test.true) ∙ ap (λ x. x ∷ drop (i + 1) rows) at in
    elim c.if-not-has.branch [
      | then-not-has+in_ok-open w ↦
          let new : c.if-not-has.self ≡ fin.insert m k None = search rules in
          let none : fin.get m k ≡ None = none_where_not (fin.get m k) (search rules) in (
            same_there dying_cmp-total dying_cmp-exact m c.if-not-has.self c.args.self.now k new none inv.0,
            reserves_new dying_cmp-total dying_cmp-exact m c.if-not-has.self (drop i rows) (drop (i + 1) rows) rows k cut new inv.1,
          )
      | else-not-has w ↦
          let same : c.if-not-has.self ≡ m = search rules in
          let had : IsSome (fin.get m k) = search rules in
          (ap there same ∙ inv.0, subst (λ n. Reserves dying_cmp-total dying_cmp-exact n (drop (i + 1) rows) rows) (sym same) (reserves_old dying_cmp-total dying_cmp-exact m (drop i rows) (drop (i + 1) rows) rows k cut had inv.1))
    ]

pub returns-clause-ready : goal.returns-clause-ready
returns-clause-ready c =
    let rest = drop_all c.loop-dying.dying-index c.args.rows.now (subst (λ xs. length xs ≤ c.loop-dying.dying-index) c.as_slice-dying-items.ensures c.loop-dying-test.false) in
    reserved dying_cmp-total dying_cmp-exact c.loop-dying.self (drop c.loop-dying.dying-index c.args.rows.now) c.args.rows.now rest c.loop-dying.invariant.1
