use Rattle.std.proofs.Common.{◌∙◌, Some, None, sym, ap, rules, ◌∷◌, []}
use Rattle.std.proofs.lemmas.Result.{on_ok_weaker, on_err_weaker}
use Rattle.std.specs.BTreeSet.{insert_key}
use Rattle.std.specs.FinMap.{get, insert}
use Rattle.tm_data.specs.Orders.{row_cmp, txn_cmp}
use Rattle.tm_data.specs.Maps.{as_map}
use Rattle.key_index.specs.Holders.{with_holder}
use Rattle.key_index.proofs.HolderLemmas.{changed, was, unchanged}
use Rattle.key_index.proofs.index.KeyIndex.add.Goals as goal

pub returns-in-Some-clause-ok : goal.returns-in-Some-clause-ok
returns-in-Some-clause-ok c =
    let m = c.self.inside.rows in
    let k = c.args.key in
    let w = c.insert.new.self in
    on_ok_weaker c.insert.result (λ is.
    changed m (c.get_mut.follows.lender w) k w ((c.get_mut.follows.holds w).3 (search rules)).0
    ∙ ap (insert (as_map {R = row_cmp} m) k) is
    ∙ ap (with_holder (as_map {R = row_cmp} m) k c.args.txn) (sym (was m k (Some c.in-Some.txns.now) (sym c.in-Some.ensures.value)))
    ∙ ap (λ n. with_holder n k c.args.txn (get n k)) c.self.view_is) c.insert.ensures.ok

pub returns-in-Some-clause-err : goal.returns-in-Some-clause-err
returns-in-Some-clause-err c =
    let w = c.insert.new.self in
    on_err_weaker c.insert.result (λ is.
    unchanged c.self.inside.rows (c.get_mut.follows.lender w) c.args.key c.in-Some.txns.now w (sym c.in-Some.ensures.value) (c.get_mut.follows.holds w).0 is
    ∙ c.self.view_is) c.insert.ensures.err

pub returns-clause-ok : goal.returns-clause-ok
returns-clause-ok c =
    let old = c.self.inside.rows in
    let m = c.get_mut.follows.lender-at-none in
    let k = c.args.key in
    let one = c.in_ok-insert.ensures.ok ∙ ap (λ ts. insert_key txn_cmp ts c.args.txn) c.new-txns.ensures in
    changed m c.insert-3.new.self k c.insert-2.new.self c.in_ok-insert-2.ensures.updates.0
    ∙ ap (insert (as_map {R = row_cmp} m) k) one
    ∙ ap (λ n. insert (as_map {R = row_cmp} n) k (c.args.txn ∷ [])) c.get_mut.follows.holds-at-none
    ∙ ap (with_holder (as_map {R = row_cmp} old) k c.args.txn) (sym (was old k None (sym c.in_default.ensures.value)))
    ∙ ap (λ n. with_holder n k c.args.txn (get n k)) c.self.view_is
