use Rattle.std.proofs.Common.{◌∙◌, Some, None, sym, ap, rules, ◌∷◌, []}
use Rattle.std.proofs.lemmas.Result.{on_ok_weaker, on_err_weaker}
use Rattle.std.specs.Prelude.{◌++◌}
use Rattle.std.specs.FinMap.{get, insert}
use Rattle.tm_data.specs.Orders.{writer_cmp}
use Rattle.tm_data.specs.Maps.{as_map}
use Rattle.key_model.specs.Inside.{with_owned}
use Rattle.key_model.proofs.OwnedLemmas.{changed, was, unchanged}
use Rattle.key_model.proofs.owned.OwnedRows.add.Goals as goal

pub returns-in-Some-clause-ok : goal.returns-in-Some-clause-ok
returns-in-Some-clause-ok c =
    let m = c.self.inside.rows in
    let d = c.args.dying in
    let k = d.txn.writer in
    let w = c.push.new.self in
    on_ok_weaker c.push.result (λ is.
    changed m (c.get_mut.follows.lender w) k w ((c.get_mut.follows.holds w).3 (search rules)).0
    ∙ ap (insert (as_map {R = writer_cmp} m) k) is
    ∙ ap (with_owned (as_map {R = writer_cmp} m) d) (sym (was m k (Some c.in-Some.rows.now) (sym c.in-Some.ensures.value)))
    ∙ ap (λ n. with_owned n d (get n k)) c.self.view_is) c.push.ensures.ok

pub returns-in-Some-clause-err : goal.returns-in-Some-clause-err
returns-in-Some-clause-err c =
    let w = c.push.new.self in
    on_err_weaker c.push.result (λ is.
    unchanged c.self.inside.rows (c.get_mut.follows.lender w) c.args.dying.txn.writer c.in-Some.rows.now w (sym c.in-Some.ensures.value) (c.get_mut.follows.holds w).0 is
    ∙ c.self.view_is) c.push.ensures.err

pub returns-clause-ok : goal.returns-clause-ok
returns-clause-ok c =
    let old = c.self.inside.rows in
    let m = c.get_mut.follows.lender-at-none in
    let d = c.args.dying in
    let k = d.txn.writer in
    let one = c.in_ok-push.ensures.ok ∙ ap (λ ds. ds ++ d ∷ []) c.new-rows.ensures in
    changed m c.insert.new.self k c.push-2.new.self c.in_ok-insert.ensures.updates.0
    ∙ ap (insert (as_map {R = writer_cmp} m) k) one
    ∙ ap (λ n. insert (as_map {R = writer_cmp} n) k (d ∷ [])) c.get_mut.follows.holds-at-none
    ∙ ap (with_owned (as_map {R = writer_cmp} old) d) (sym (was old k None (sym c.in_default.ensures.value)))
    ∙ ap (λ n. with_owned n d (get n k)) c.self.view_is
