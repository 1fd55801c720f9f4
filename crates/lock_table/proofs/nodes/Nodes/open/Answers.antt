use Rattle.std.proofs.Common.{◌+◌, ◌<◌, ◌^◌, refl, ap, sym, subst, ◌∙◌, arith}
use Rattle.lock_table.specs.declared.heads.Head.{Head}
use Rattle.lock_table.specs.Inside.{head_in}
use Rattle.lock_table.proofs.Added.{same_by, page_same, txn_same, page_gone, page_there, txn_there}
use Rattle.lock_table.proofs.nodes.Nodes.open.Goals as goal

pub returns-in_err-reserve-clause-same : goal.returns-in_err-reserve-clause-same
returns-in_err-reserve-clause-same c = same_by c.args.self.now c.reserve.new.self c.args.self.now.pages c.args.self.now.txns c.reserve.ensures.rest_kept (λ p. refl) (λ x. refl)

pub returns-in_err-put-clause-same : goal.returns-in_err-put-clause-same
returns-in_err-put-clause-same c =
    let s = c.args.self.now in
    same_by s c.reserve.new.self c.put.new.self s.txns c.reserve.ensures.rest_kept (λ p. ap (λ m. head_in (Rattle.std.specs.FinMap.get m p)) c.in_err-put.ensures.err) (λ x. refl)

pub returns-in_default-before-clause-same : goal.returns-in_default-before-clause-same
returns-in_default-before-clause-same c =
    let s = c.args.self.now in
    let hp = c.or_empty-page_head.ensures ∙ ap head_in c.get-before.ensures in
    same_by s c.reserve.new.self c.put.new.self c.put-2.new.self c.reserve.ensures.rest_kept (page_same s.pages c.put.new.self c.args.page.0 c.or_empty-page_head.result hp c.in_ok-put.ensures.ok)
    (λ x. ap (λ m. head_in (Rattle.std.specs.FinMap.get m x)) c.in_default.ensures.err)

pub returns-in-None-clause-same : goal.returns-in-None-clause-same
returns-in-None-clause-same c =
    let s = c.args.self.now in
    let hp = c.or_empty-page_head.ensures ∙ ap head_in c.get-before.ensures in
    let put = page_same s.pages c.put.new.self c.args.page.0 c.or_empty-page_head.result hp c.in_ok-put.ensures.ok in
    same_by s c.reserve.new.self c.remove.new.self c.put-2.new.self c.reserve.ensures.rest_kept (page_gone s.pages c.put.new.self c.remove.new.self c.args.page.0 (sym c.get-before.ensures ∙ c.in-None.is) put c.remove.ensures)
    (λ x. ap (λ m. head_in (Rattle.std.specs.FinMap.get m x)) c.in_default.ensures.err)

pub returns-clause-same : goal.returns-clause-same
returns-clause-same c =
    let s = c.args.self.now in
    let hp = c.or_empty-page_head.ensures ∙ ap head_in c.get-before.ensures in
    let ht = c.or_empty-txn_head.ensures ∙ ap head_in c.get.ensures in
    same_by s c.reserve.new.self c.put.new.self c.put-2.new.self c.reserve.ensures.rest_kept (page_same s.pages c.put.new.self c.args.page.0 c.or_empty-page_head.result hp c.in_ok-put.ensures.ok)
    (txn_same s.txns c.put-2.new.self c.args.txn c.or_empty-txn_head.result ht c.in-Ok.ensures.ok)

pub returns-clause-ok : goal.returns-clause-ok
returns-clause-ok c =
    let s = c.args.self.now in
    let hp = c.or_empty-page_head.ensures ∙ ap head_in c.get-before.ensures in
    let ht = c.or_empty-txn_head.ensures ∙ ap head_in c.get.ensures in
    let page_is = page_same s.pages c.put.new.self c.args.page.0 c.or_empty-page_head.result hp c.in_ok-put.ensures.ok c.args.page.0 ∙ sym hp in
    let txn_is = txn_same s.txns c.put-2.new.self c.args.txn c.or_empty-txn_head.result ht c.in-Ok.ensures.ok c.args.txn ∙ sym ht in
    let page_count : c.or_empty-page_head.result.count + 1 < 2 ^ 64 = omega arith in
    let txn_count : c.or_empty-txn_head.result.count + 1 < 2 ^ 64 = omega arith in
    record {
      room = c.in_ok-reserve.ensures.room;
      page_there = page_there s.pages c.put.new.self c.args.page.0 c.or_empty-page_head.result c.in_ok-put.ensures.ok;
      page_fits = subst (λ (h : Head). h.count + 1 < 2 ^ 64) (sym page_is) page_count;
      txn_there = txn_there s.txns c.put-2.new.self c.args.txn c.or_empty-txn_head.result c.in-Ok.ensures.ok;
      txn_fits = subst (λ (h : Head). h.count + 1 < 2 ^ 64) (sym txn_is) txn_count;
    }
