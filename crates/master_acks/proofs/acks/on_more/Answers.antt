use Rattle.std.proofs.Common.{◌≡◌, ◌++◌, List, ap, sym, ◌∙◌, map, ℕ}
use Rattle.std.specs.Ordering.{nat_cmp}
use Rattle.std.specs.FinMap.{FinMap}
use Rattle.tm_data.specs.declared.transaction.Txn.{Txn}
use Rattle.lock_table.specs.Tags.{Tags}
use Rattle.master_model.specs.declared.left.Left.{Left}
use Rattle.master_model.specs.State.{Work, durable}
use Rattle.master_model.specs.Acks.{ends_between, stable, to_stores}
use Rattle.master_work.specs.contracts.work_state.WorkState as work_type
use Rattle.master_acks.specs.declared.leaving.Leaving.{Leaving}
use Rattle.master_acks.specs.Inside.{cut_each, ended_off, gone_with, goes_with, left_each, txns}
use Rattle.master_acks.proofs.AckLemmas.{ended_by, leaving_by, more_by, more_is, more_made}
use Rattle.master_acks.proofs.acks.on_more.Goals as goal

pub returns-clause-ok : goal.returns-clause-ok
returns-clause-ok c =
    let w = c.args.work.now in
    let v = work_type.the_view c.work.inside in
    let old = c.args.old in
    let ts : List Txn = c.as_slice-ended.result.now in
    let ls : List Leaving = c.as_slice-pages.result.now in
    let same : ls ≡ c.in_ok-leaving.leaving.items = c.as_slice-pages.ensures.value in
    let said = to_stores (stable w) ++ map (goes_with w) ls in
    let ts_is : ts ≡ ended_by w old =
    c.as_slice-ended.ensures.value ∙ c.in_ok-all_ended.ensures ∙ ap (λ (n : ℕ). txns (ends_between w.log old n)) (c.durable_seq.ensures ∙ ap (λ (u : Work). durable u) c.work.view_is) in
    let ls_is : ls ≡ leaving_by w (ended_by w old) = same ∙ c.in_ok-leaving.ensures ∙ ap (leaving_by w) ts_is in
    more_made v ts ls said _ _ _ _ _ _ _
    c.let_go.ensures
    c.release_each.ensures
    (c.keep_each.ensures ∙ (λ i. left_each (c.make_room.ensures.same i) (sym same i)))
    c.clear_each.ensures
    (c.cut_each.ensures ∙ ap (λ (t : Tags). cut_each t ls) c.end_all.ensures)
    c.draw_each.ensures
    c.in_ok-messages.ensures
    ∙ ap (λ (u : Work). (gone_with (ended_off u ts) ls, said)) c.work.view_is
    ∙ (λ i. more_by w (ts_is i) (ls_is i))
    ∙ sym (more_is w old)
