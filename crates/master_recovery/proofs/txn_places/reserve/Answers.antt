use Rattle.std.proofs.Common.{◌≡◌, ◌∷◌, ◌∙◌, None, sym, ap, subst, rules, drop, length, get_or, ◌≤◌, ◌+◌}
use Rattle.std.proofs.lemmas.List.{drop_more, drop_all}
use Rattle.std.specs.Prelude.{IsSome}
use Rattle.std.specs.FinMap as fin
use Rattle.tm_data.specs.declared.transaction.Txn.{Txn}
use Rattle.tm_data.specs.Orders.{txn_cmp-total, txn_cmp-exact}
use Rattle.master_recovery.specs.Places.{itself, valued}
use Rattle.master_recovery.proofs.PlaceLemmas.{Reserves, reserves_new, reserves_old, reserved, same_place, none_where_not}
use Rattle.master_recovery.proofs.txn_places.reserve.Goals as goal
use Rattle.master_recovery.proofs.txn_places.reserve.Goals.{then-not-has+in_ok-insert, else-not-has}

abbrev zero : Txn
zero = record { writer = record { 0 = 0 }; number = 0 }

pub loop-txn-preserved : goal.loop-txn-preserved
loop-txn-preserved c =
    let items = c.args.txns.now in
    let xs = c.as_slice-txn-items.result.now in
    let i = c.loop-txn.txn-index in
    let k = get_or xs i zero in
    let m = c.loop-txn.places in
    let inv = c.loop-txn.invariant in
    let same : xs ≡ items = c.as_slice-txn-items.ensures in
    let cut : drop i items ≡ k ∷ drop (i + 1) items = subst (λ l. drop i l ≡ k ∷ drop (i + 1) l) same (drop_more xs i zero c.loop-txn-test.true) in
    elim c.if-not-has.branch [
      | then-not-has+in_ok-insert w ↦
          let new : c.if-not-has.places ≡ fin.insert m k None = search rules in
          let none : fin.get m k ≡ None = none_where_not (fin.get m k) (search rules) in (
            same_place txn_cmp-total txn_cmp-exact m c.if-not-has.places c.args.places.now k new none inv.0,
            reserves_new txn_cmp-total txn_cmp-exact itself m c.if-not-has.places (drop i items) (drop (i + 1) items) items k cut new inv.1,
          )
      | else-not-has w ↦
          let same : c.if-not-has.places ≡ m = search rules in
          let had : IsSome (fin.get m k) = search rules in
          (ap valued same ∙ inv.0, subst (λ n. Reserves txn_cmp-total txn_cmp-exact itself n (drop (i + 1) items) items) (sym same) (reserves_old txn_cmp-total txn_cmp-exact itself m (drop i items) (drop (i + 1) items) items k cut had inv.1))
    ]

pub returns-clause-ready : goal.returns-clause-ready
returns-clause-ready c =
    let rest = drop_all c.loop-txn.txn-index c.args.txns.now (subst (λ xs. length xs ≤ c.loop-txn.txn-index) c.as_slice-txn-items.ensures c.loop-txn-test.false) in
    reserved txn_cmp-total txn_cmp-exact itself c.loop-txn.places (drop c.loop-txn.txn-index c.args.txns.now) c.args.txns.now rest c.loop-txn.invariant.1
