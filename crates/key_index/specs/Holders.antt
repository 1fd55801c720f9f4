-- What holders a row has after a change.
use Rattle.std.specs.Prelude.{List, [], ◌∷◌, Bool, true, false, cond, Some, None}
use Rattle.std.specs.FinMap as fin
use Rattle.std.specs.BTreeMap.{is_at}
use Rattle.std.specs.BTreeSet.{insert_key}
use Rattle.std.specs.Set.{remove_key}
use Rattle.std.specs.declared.option.Option.{Option}
use Rattle.tm_data.specs.declared.transaction.Txn.{Txn}
use Rattle.tm_data.specs.declared.row_map.RowKey.{RowKey}
use Rattle.tm_data.specs.Orders.{row_cmp, txn_cmp}

abbrev pub Holders : Type 0
Holders = fin.FinMap row_cmp (List Txn)

abbrev pub is_nil : List Txn → Bool
is_nil [] = true
is_nil (t ∷ ts) = false

-- the row has one more holder, besides those that it has
abbrev pub with_holder : Holders → RowKey → Txn → Option (List Txn) → Holders
with_holder m key t None = fin.insert m key (t ∷ [])
with_holder m key t (Some ts) = fin.insert m key (insert_key txn_cmp ts t)

-- the transaction isn't among the row's holders
abbrev pub struck : Holders → RowKey → Txn → Option (List Txn) → Holders
struck m key t None = m
struck m key t (Some ts) = fin.insert m key (remove_key (is_at (txn_cmp t)) ts)

-- the row is there, with no holder
abbrev pub is_bare : Option (List Txn) → Bool
is_bare None = false
is_bare (Some ts) = is_nil ts

abbrev pub tidied : Holders → RowKey → Holders
tidied m key = cond (is_bare (fin.get m key)) (fin.remove m key) m

-- the row has one holder less, and isn't there if it was the last
abbrev pub without_holder : Holders → RowKey → Txn → Holders
without_holder m key t = tidied (struck m key t (fin.get m key)) key
