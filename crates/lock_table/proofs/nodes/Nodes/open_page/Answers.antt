use Rattle.std.proofs.Common.{◌+◌, ◌<◌, ◌^◌, refl, ap, sym, subst, ◌∙◌, arith}
use Rattle.lock_table.specs.declared.heads.Head.{Head}
use Rattle.lock_table.specs.Inside.{head_in}
use Rattle.lock_table.proofs.Added.{same_by, page_same, page_there}
use Rattle.lock_table.proofs.nodes.Nodes.open_page.Goals as goal

pub returns-clause-same : goal.returns-clause-same
returns-clause-same c =
    let s = c.args.self.now in
    let hp = c.or_empty-head.ensures ∙ ap head_in c.get.ensures in
    same_by s s.slab c.put.new.self s.txns refl (page_same s.pages c.put.new.self c.args.page.0 c.or_empty-head.result hp c.in_ok-put.ensures.ok) (λ x. refl)

pub returns-clause-there : goal.returns-clause-there
returns-clause-there c = page_there c.args.self.now.pages c.put.new.self c.args.page.0 c.or_empty-head.result c.in_ok-put.ensures.ok

pub returns-clause-fits : goal.returns-clause-fits
returns-clause-fits c =
    let s = c.args.self.now in
    let hp = c.or_empty-head.ensures ∙ ap head_in c.get.ensures in
    let is = page_same s.pages c.put.new.self c.args.page.0 c.or_empty-head.result hp c.in_ok-put.ensures.ok c.args.page.0 ∙ sym hp in
    let fits : c.or_empty-head.result.count + c.args.more < 2 ^ 64 = omega arith in
    subst (λ (h : Head). h.count + c.args.more < 2 ^ 64) (sym is) fits
