-- The rows and the map at a cut, as lists.
use Rattle.std.specs.Prelude.{◌≡◌, ℕ, cond, List, [], ◌∷◌, map}
use Rattle.std.specs.List.Sorted.{IsStrictlySortedBy}
use Rattle.std.specs.declared.option.Option.{Option}
use Rattle.std.specs.declared.option.Option.TheVariants.{None, Some}
use Rattle.tm_data.specs.declared.row_map.RowKey.{RowKey}
use Rattle.tm_data.specs.declared.row.Row.{Row}
use Rattle.tm_data.specs.Orders.{row_cmp}
use Rattle.key_model.specs.declared.events.Event.{Event}
use Rattle.key_model.specs.declared.events.TableRow.{TableRow}
use Rattle.key_model.specs.declared.values.Entry.{Entry}
use Rattle.key_model.specs.Steps.{row_of}
use Rattle.key_model.specs.After.{same_row}
use Rattle.key_model.specs.Cuts.{Cut, row_at, value_at}

-- ---- rows

abbrev pub key_of_row : TableRow → RowKey
key_of_row r = row_of r.table r.row.key

-- The row that a list has of a key.
abbrev pub row_in : List TableRow → RowKey → Option Row
row_in [] key = None
row_in (r ∷ rows) key = cond (same_row key (key_of_row r)) (Some r.row) (row_in rows key)

-- The rows ascend by table and key, and of each key there is the row at the cut, or none where it has none.
pub record AreRowsAt (events : List Event) (cut : Cut) (rows : List TableRow) : Type 0 where
  pub ascending : IsStrictlySortedBy row_cmp (map key_of_row rows)
  pub each : (key : RowKey) → row_in rows key ≡ row_at events cut key

-- ---- the map

abbrev pub key_of_entry : Entry → RowKey
key_of_entry e = row_of e.table e.key

-- The value that a list has of a key.
abbrev pub value_in : List Entry → RowKey → Option (List ℕ)
value_in [] key = None
value_in (e ∷ entries) key = cond (same_row key (key_of_entry e)) (Some e.value) (value_in entries key)

-- The entries ascend by table and key, and of each key there is the value at the cut, or none where it has none.
pub record IsMapAt (events : List Event) (cut : Cut) (entries : List Entry) : Type 0 where
  pub ascending : IsStrictlySortedBy row_cmp (map key_of_entry entries)
  pub each : (key : RowKey) → value_in entries key ≡ value_at events cut key
