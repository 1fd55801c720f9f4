use Rattle.std.proofs.Common.{sym, ◌∙◌, ap, subst}
use Rattle.std.specs.FinMap.{get, remove}
use Rattle.tm_data.specs.Orders.{txn_cmp-total, txn_cmp-exact}
use Rattle.tm_data.specs.Maps.{as_map, get-as_map, remove-as_map}
use Rattle.key_index.specs.Touched.{Covers, wrote, read}
use Rattle.key_index.proofs.CoverLemmas.{covers_ended}
use Rattle.key_index.proofs.opened.OpenMap.end.Goals as goal

pub returns-in_default-clause-value : goal.returns-in_default-clause-value
returns-in_default-clause-value c =
    c.in_default.ensures.value ∙ sym (get-as_map txn_cmp-total c.self.inside.opened c.args.txn.now) ∙ ap (λ m. get m c.args.txn.now) c.self.view_is

pub returns-in_default-clause-removed : goal.returns-in_default-clause-removed
returns-in_default-clause-removed c =
    remove-as_map txn_cmp-total txn_cmp-exact c.self.inside.opened c.remove.new.self c.args.txn.now c.remove.ensures.updates.0
    ∙ ap (λ m. remove m c.args.txn.now) c.self.view_is

pub returns-clause-value : goal.returns-clause-value
returns-clause-value c =
    c.in-Some.ensures.value ∙ sym (get-as_map txn_cmp-total c.self.inside.opened c.args.txn.now) ∙ ap (λ m. get m c.args.txn.now) c.self.view_is

pub returns-clause-removed : goal.returns-clause-removed
returns-clause-removed c =
    remove-as_map txn_cmp-total txn_cmp-exact c.self.inside.opened c.remove.new.self c.args.txn.now c.remove.ensures.updates.0
    ∙ ap (λ m. remove m c.args.txn.now) c.self.view_is

pub invariant_of-self-2 : goal.invariant_of-self-2
invariant_of-self-2 c =
    let m = c.self.inside.opened in
    let is = remove-as_map txn_cmp-total txn_cmp-exact m c.remove.new.self c.args.txn.now c.remove.ensures.updates.0 in (
      subst (λ n. Covers wrote n c.strike.new.index) (sym is)
          (covers_ended wrote (as_map m) c.self.inside.written c.strike.new.index c.args.txn.now c.strike.ensures c.self.invariant.0),
      subst (λ n. Covers read n c.strike_reads.new.index) (sym is)
          (covers_ended read (as_map m) c.self.inside.readers c.strike_reads.new.index c.args.txn.now c.strike_reads.ensures c.self.invariant.1),
    )
