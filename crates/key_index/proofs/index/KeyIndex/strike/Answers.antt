use Rattle.std.proofs.Common.{◌∙◌, Some, None, sym, ap, rules}
use Rattle.std.specs.FinMap.{get, insert}
use Rattle.tm_data.specs.Orders.{row_cmp}
use Rattle.tm_data.specs.Maps.{as_map}
use Rattle.key_index.specs.Holders.{struck, is_bare}
use Rattle.key_index.proofs.HolderLemmas.{changed, was, bare_after}
use Rattle.key_index.proofs.index.KeyIndex.strike.Goals as goal

pub returns-in_default-clause-struck : goal.returns-in_default-clause-struck
returns-in_default-clause-struck c =
    let m = c.self.inside.rows in
    let k = c.args.key.now in
    ap (as_map {R = row_cmp}) c.get_mut.follows.holds-at-none
    ∙ ap (struck (as_map {R = row_cmp} m) k c.args.txn.now) (sym (was m k None (sym c.in_default.ensures.value)))
    ∙ ap (λ n. struck n k c.args.txn.now (get n k)) c.self.view_is

pub returns-in_default-clause-bare : goal.returns-in_default-clause-bare
returns-in_default-clause-bare c =
    let m = c.self.inside.rows in
    let k = c.args.key.now in
    sym (ap is_bare (ap (λ n. get (as_map {R = row_cmp} n) k) c.get_mut.follows.holds-at-none ∙ was m k None (sym c.in_default.ensures.value)))

pub returns-clause-struck : goal.returns-clause-struck
returns-clause-struck c =
    let m = c.self.inside.rows in
    let k = c.args.key.now in
    let w = c.remove.new.self in
    changed m (c.get_mut.follows.lender w) k w ((c.get_mut.follows.holds w).3 (search rules)).0
    ∙ ap (insert (as_map {R = row_cmp} m) k) c.remove.ensures
    ∙ ap (struck (as_map {R = row_cmp} m) k c.args.txn.now) (sym (was m k (Some c.in-Some.txns.now) (sym c.in-Some.ensures.value)))
    ∙ ap (λ n. struck n k c.args.txn.now (get n k)) c.self.view_is

pub returns-clause-bare : goal.returns-clause-bare
returns-clause-bare c =
    let m = c.self.inside.rows in
    let k = c.args.key.now in
    let w = c.remove.new.self in
    c.is_empty.ensures ∙ sym (bare_after (as_map m) (as_map (c.get_mut.follows.lender w)) k w (changed m (c.get_mut.follows.lender w) k w ((c.get_mut.follows.holds w).3 (search rules)).0))
