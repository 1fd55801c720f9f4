use Rattle.std.proofs.Common.{◌∙◌, sym, ap, rules}
use Rattle.std.specs.FinMap.{get}
use Rattle.tm_data.specs.Orders.{txn_cmp-total}
use Rattle.tm_data.specs.Maps.{get-as_map}
use Rattle.key_index.specs.Touched.{has_at, read}
use Rattle.key_index.proofs.opened.OpenMap.has_read.Goals as goal

pub returns-in-Some : goal.returns-in-Some
returns-in-Some c =
    (search rules)
    ∙ ap (λ o. has_at read o c.args.key.now) (c.in-Some.ensures.value ∙ sym (get-as_map txn_cmp-total c.self.inside.opened c.args.txn.now) ∙ ap (λ m. get m c.args.txn.now) c.self.view_is)

pub returns-in-None : goal.returns-in-None
returns-in-None c =
    ap (λ o. has_at read o c.args.key.now) (c.in-None.ensures.value ∙ sym (get-as_map txn_cmp-total c.self.inside.opened c.args.txn.now) ∙ ap (λ m. get m c.args.txn.now) c.self.view_is)
