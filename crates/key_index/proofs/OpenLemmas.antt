-- A change of what one open transaction has read or written.
use Rattle.std.proofs.Common.{◌≡◌, ◌∙◌, Some, ap, cond}
use Rattle.std.proofs.lemmas.Map.Steps.{set_value_same}
use Rattle.std.specs.declared.option.Option.{Option}
use Rattle.std.specs.BTreeMap as tree
use Rattle.std.specs.BTreeMap.{BTreeMap, is_at}
use Rattle.std.specs.FinMap.{get, insert, from_entries}
use Rattle.std.specs.Map.{set_value}
use Rattle.tm_data.specs.declared.transaction.Txn.{Txn}
use Rattle.tm_data.specs.Orders.{txn_cmp, txn_cmp-total, txn_cmp-exact}
use Rattle.tm_data.specs.Maps.{as_map, get-as_map, insert-as_map}
use Rattle.key_index.specs.declared.opened.Open.{Open}

-- what was lent ends as w, and t had something before
pub changed : (m n : BTreeMap Txn Open) (t : Txn) (w : Open) → ((q : Txn) → tree.get txn_cmp n q ≡ cond (is_at (txn_cmp t) q) (Some w) (tree.get txn_cmp m q)) → as_map {R = txn_cmp} n ≡ insert (as_map m) t w
changed m n t w updates = insert-as_map txn_cmp-total txn_cmp-exact m n t w updates

pub was : (m : BTreeMap Txn Open) (t : Txn) (o : Option Open) → tree.get txn_cmp m t ≡ o → get (as_map {R = txn_cmp} m) t ≡ o
was m t o had = get-as_map {R = txn_cmp} txn_cmp-total m t ∙ had

-- nothing was written through what was lent
pub unchanged : (m n : BTreeMap Txn Open) (t : Txn) (had w : Open) → tree.get txn_cmp m t ≡ Some had → n.entries ≡ set_value (is_at (txn_cmp t)) m.entries w → w ≡ had
    → as_map {R = txn_cmp} n ≡ as_map m
unchanged m n t had w is wrote same = ap (from_entries {R = txn_cmp}) (wrote ∙ ap (set_value (is_at (txn_cmp t)) m.entries) same ∙ set_value_same (is_at (txn_cmp t)) m.entries had is)
