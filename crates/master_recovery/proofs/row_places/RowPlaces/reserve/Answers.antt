use Rattle.std.proofs.Common.{◌≡◌, ◌∷◌, ◌∙◌, None, sym, ap, subst, rules, drop, length, get_or, ◌<◌, ◌≤◌, ◌+◌}
use Rattle.std.proofs.lemmas.List.{drop_more, drop_all}
use Rattle.std.specs.Prelude.{IsSome}
use Rattle.std.specs.FinMap as fin
use Rattle.master_recovery.specs.Rows.{written_cmp-total, written_cmp-exact}
use Rattle.master_recovery.specs.Places.{itself, valued}
use Rattle.master_recovery.proofs.PlaceLemmas.{Reserves, reserves_new, reserves_old, reserved, same_place, none_where_not}
use Rattle.master_recovery.proofs.row_places.RowPlaces.reserve.Goals as goal
use Rattle.master_recovery.proofs.row_places.RowPlaces.reserve.Goals.{then-not-has+in_ok-open, else-not-has}

pub loop-written-preserved : goal.loop-written-preserved
loop-written-preserved c =
    let items = c.args.rows.now in
    let i = c.loop-written.written-index in
    let k = c.written-item.result in
    let m = c.loop-written.self in
    let inv = c.loop-written.invariant in
    let same : c.as_slice-written-items.result.now ≡ items = c.as_slice-written-items.ensures in
    let at : get_or items i k ≡ k = ap (λ xs. get_or xs i k) (sym same) ∙ (search rules) in
    let cut : drop i items ≡ k ∷ drop (i + 1) items = drop_more items i k (subst (λ xs. i < length xs) same c.loop-written-test.true) ∙ ap (λ x. x ∷ drop (i + 1) items) at in
    elim c.if-not-has.branch [
      | then-not-has+in_ok-open w ↦
          let new : c.if-not-has.self ≡ fin.insert m k None = search rules in
          let none : fin.get m k ≡ None = none_where_not (fin.get m k) (search rules) in (
            same_place written_cmp-total written_cmp-exact m c.if-not-has.self c.args.self.now k new none inv.0,
            reserves_new written_cmp-total written_cmp-exact itself m c.if-not-has.self (drop i items) (drop (i + 1) items) items k cut new inv.1,
          )
      | else-not-has w ↦
          let same : c.if-not-has.self ≡ m = search rules in
          let had : IsSome (fin.get m k) = search rules in
          (ap valued same ∙ inv.0, subst (λ n. Reserves written_cmp-total written_cmp-exact itself n (drop (i + 1) items) items) (sym same) (reserves_old written_cmp-total written_cmp-exact itself m (drop i items) (drop (i + 1) items) items k cut had inv.1))
    ]

pub returns-clause-ready : goal.returns-clause-ready
returns-clause-ready c =
    let rest = drop_all c.loop-written.written-index c.args.rows.now (subst (λ xs. length xs ≤ c.loop-written.written-index) c.as_slice-written-items.ensures c.loop-written-test.false) in
    reserved written_cmp-total written_cmp-exact itself c.loop-written.self (drop c.loop-written.written-index c.args.rows.now) c.args.rows.now rest c.loop-written.invariant.1
