use Rattle.std.proofs.Common.{◌≡◌, ◌+◌, ◌<◌, ◌^◌, ap, sym, subst, ◌∙◌, arith}
use Rattle.std.specs.FinMap as map
use Rattle.lock_table.specs.declared.heads.Head.{Head}
use Rattle.lock_table.specs.Inside.{head_in}
use Rattle.lock_table.specs.Putting.{Stays}
use Rattle.lock_table.proofs.Added.{txn_there}
use Rattle.lock_table.proofs.Putting.{txn_stays}
use Rattle.lock_table.proofs.nodes.Nodes.open_txn.Goals as goal

pub returns-clause-same : goal.returns-clause-same
returns-clause-same c = λ x.
    let s = c.args.self.now in
    let ht = c.or_empty-head.ensures ∙ ap head_in c.get.ensures in
    subst (λ m. Stays (map.get s.txns x) (map.get m x)) (sym c.in-Ok.ensures.ok) (txn_stays s.txns c.args.txn c.or_empty-head.result ht x)

pub returns-clause-ok : goal.returns-clause-ok
returns-clause-ok c =
    let s = c.args.self.now in
    let ht = c.or_empty-head.ensures ∙ ap head_in c.get.ensures in
    let is : head_in (map.get c.put.new.self c.args.txn) ≡ c.or_empty-head.result =
    ap (λ m. head_in (map.get m c.args.txn)) c.in-Ok.ensures.ok ∙ ((txn_stays s.txns c.args.txn c.or_empty-head.result ht c.args.txn).same ∙ sym ht) in
    let fits : c.or_empty-head.result.count + c.args.more < 2 ^ 64 = omega arith in
    (txn_there s.txns c.put.new.self c.args.txn c.or_empty-head.result c.in-Ok.ensures.ok, subst (λ (h : Head). h.count + c.args.more < 2 ^ 64) (sym is) fits)
