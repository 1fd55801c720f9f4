-- A change of what one row has for holders.
use Rattle.std.specs.Prelude.{List, true}
use Rattle.std.proofs.Common.{◌≡◌, ◌∙◌, Some, ap, cond, sym}
use Rattle.std.proofs.lemmas.Map.Steps.{set_value_same}
use Rattle.std.specs.declared.option.Option.{Option}
use Rattle.std.specs.BTreeMap as tree
use Rattle.std.specs.BTreeMap.{BTreeMap, is_at}
use Rattle.std.specs.FinMap.{get, insert, remove, from_entries, get-insert}
use Rattle.std.specs.Map.{set_value}
use Rattle.std.specs.Cmp.{tied_itself}
use Rattle.std.specs.Ordering.{eq_by_cmp, is_eq}
use Rattle.tm_data.specs.declared.transaction.Txn.{Txn}
use Rattle.tm_data.specs.declared.row_map.RowKey.{RowKey}
use Rattle.tm_data.specs.Orders.{row_cmp, row_cmp-total, row_cmp-exact}
use Rattle.tm_data.specs.Maps.{as_map, get-as_map, insert-as_map}
use Rattle.key_index.specs.Holders.{Holders, is_nil, is_bare, tidied}

pub changed : (m n : BTreeMap RowKey (List Txn)) (k : RowKey) (w : List Txn) → ((q : RowKey) → tree.get row_cmp n q ≡ cond (is_at (row_cmp k) q) (Some w) (tree.get row_cmp m q)) → as_map {R = row_cmp} n ≡ insert (as_map m) k w
changed m n k w updates = insert-as_map row_cmp-total row_cmp-exact m n k w updates

pub was : (m : BTreeMap RowKey (List Txn)) (k : RowKey) (o : Option (List Txn)) → tree.get row_cmp m k ≡ o → get (as_map {R = row_cmp} m) k ≡ o
was m k o had = get-as_map {R = row_cmp} row_cmp-total m k ∙ had

pub unchanged : (m n : BTreeMap RowKey (List Txn)) (k : RowKey) (had w : List Txn) → tree.get row_cmp m k ≡ Some had → n.entries ≡ set_value (is_at (row_cmp k)) m.entries w → w ≡ had
    → as_map {R = row_cmp} n ≡ as_map m
unchanged m n k had w is wrote same = ap (from_entries {R = row_cmp}) (wrote ∙ ap (set_value (is_at (row_cmp k)) m.entries) same ∙ set_value_same (is_at (row_cmp k)) m.entries had is)

at_itself : (k : RowKey) → eq_by_cmp row_cmp k k ≡ true
at_itself k = ap is_eq (tied_itself row_cmp-total k)

pub bare_after : (m n : Holders) (k : RowKey) (w : List Txn) → n ≡ insert m k w → is_bare (get n k) ≡ is_nil w
bare_after m n k w is =
    ap (λ x. is_bare (get x k)) is ∙ ap is_bare (get-insert row_cmp-total m k w k) ∙ ap (λ b. is_bare (cond b (Some w) (get m k))) (at_itself k)

pub tidy : (m : Holders) (k : RowKey) → is_bare (get m k) ≡ true → remove m k ≡ tidied m k
tidy m k bare = sym (ap (λ b. cond b (remove m k) m) bare)
