use Rattle.std.proofs.Common.{◌∙◌, ap, sym, subst}
use Rattle.std.specs.FinMap.{insert}
use Rattle.tm_data.specs.Orders.{txn_cmp-total, txn_cmp-exact}
use Rattle.tm_data.specs.Maps.{as_map, insert-as_map}
use Rattle.key_index.specs.Touched.{Covers, wrote, read}
use Rattle.key_index.proofs.CoverLemmas.{covers_less, less_begun, wrote_none_yet, read_none_yet}
use Rattle.key_index.proofs.opened.OpenMap.begin.Goals as goal

pub returns-clause-ok : goal.returns-clause-ok
returns-clause-ok c =
    insert-as_map txn_cmp-total txn_cmp-exact c.self.inside.opened c.insert.new.self c.args.txn c.new.result c.in_ok-insert.ensures.updates.0
    ∙ ap (λ m. insert m c.args.txn c.new.result) c.self.view_is ∙ ap (insert c.args.self.now c.args.txn) c.new.ensures

pub invariant_of-self-2 : goal.invariant_of-self-2
invariant_of-self-2 c =
    let m = c.self.inside.opened in
    let is = insert-as_map txn_cmp-total txn_cmp-exact m c.insert.new.self c.args.txn c.new.result c.in_ok-insert.ensures.updates.0 in
    let new = insert (as_map m) c.args.txn c.new.result in (
      subst (λ n. Covers wrote n c.self.inside.written) (sym is)
          (covers_less wrote (as_map m) new c.self.inside.written c.self.invariant.0 (less_begun wrote (as_map m) c.args.txn c.new.result (wrote_none_yet c.new.result c.new.ensures))),
      subst (λ n. Covers read n c.self.inside.readers) (sym is)
          (covers_less read (as_map m) new c.self.inside.readers c.self.invariant.1 (less_begun read (as_map m) c.args.txn c.new.result (read_none_yet c.new.result c.new.ensures))),
    )
