use Rattle.std.proofs.Common.{◌≡◌, ◌∷◌, [], ◌++◌, ◌<◌, ◌≤◌, ap, sym, ◌∙◌, arith}
use Rattle.std.specs.FinMap as fin
use Rattle.tm_data.specs.declared.transaction.Stamp.{Stamp}
use Rattle.lease_desk.specs.Desk.{Leases, lease_of, releasing}
use Rattle.master_model.specs.State.{Work, settled}
use Rattle.master_model.specs.Leases.{left_of, release}
use Rattle.master_work.specs.contracts.work_state.WorkState as work_type
use Rattle.master_leases.proofs.RecallLemmas.{asked, gone_by, gone_is, recall_goes, recall_waits}
use Rattle.master_leases.proofs.recalls.recall_held.Goals as goal

pub returns-then-settled-stamp-clause-ok : goal.returns-then-settled-stamp-clause-ok
returns-then-settled-stamp-clause-ok c =
    let w = c.args.work.now in
    let v = work_type.the_view c.work.inside in
    let p = c.args.page.0 in
    let later : settled w < (lease_of w.leases p).stamp.0 =
    omega (arith, c.if-settled-stamp.true, c.settled.ensures, ap (λ (s : Stamp). s.0) c.stamp.ensures, ap (λ (u : Work). settled u) c.work.view_is, ap (λ (u : Work). (lease_of u.leases p).stamp.0) c.work.view_is) in
    (λ k. (record v { leases = c.on_recall.ensures k }, c.new-messages.ensures k))
    ∙ ap (λ (u : Work). (asked u p c.args.epoch, [])) c.work.view_is
    ∙ sym (recall_waits w p c.args.epoch c.requires.held c.requires.epoch later)

pub returns-clause-ok : goal.returns-clause-ok
returns-clause-ok c =
    let w = c.args.work.now in
    let v = work_type.the_view c.work.inside in
    let p = c.args.page.0 in
    let l = left_of w p in
    let durable : (lease_of w.leases p).stamp.0 ≤ settled w =
    omega (arith, c.if-settled-stamp.false, c.settled.ensures, ap (λ (s : Stamp). s.0) c.stamp.ensures, ap (λ (u : Work). settled u) c.work.view_is, ap (λ (u : Work). (lease_of u.leases p).stamp.0) c.work.view_is) in
    let is_left : c.in_ok-left.left ≡ l = c.in_ok-left.ensures in
    let told : c.in_ok-release.field-0 ≡ release w p l = c.in_ok-release.ensures ∙ ap (release w p) is_left in
    gone_is v p c.args.epoch l (release w p l) _ _ _ _ _ _
    (c.releasing.ensures ∙ ap (λ (m : Leases). releasing m p) c.on_recall-2.ensures)
    (c.insert.ensures.set ∙ (λ k. fin.insert (c.make_room.ensures.same k) p (is_left k)))
    c.drop_page.ensures c.drop_tags.ensures c.remove.ensures
    (c.in_ok-push.ensures.ok ∙ (λ k. c.new-messages.ensures k ++ (told k ∷ [])))
    ∙ ap (λ (u : Work). gone_by u p c.args.epoch l (release w p l)) c.work.view_is
    ∙ sym (recall_goes w p c.args.epoch c.requires.held c.requires.epoch durable)
