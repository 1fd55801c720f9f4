-- What some groups change, gathered in lists before any of it is kept.
use Rattle.std.specs.Prelude.{ℕ, Bool, true, false, List, [], ◌∷◌, ◌++◌, nat_eq}
use Rattle.tm_data.specs.declared.log.Group.{Group}
use Rattle.tm_data.specs.declared.log.Record.{Record}
use Rattle.tm_data.specs.declared.log.Record.TheVariants.{RowSet, Cut, Format, NodeAdd, End, Beat}
use Rattle.tm_data.specs.declared.row.Row.{Row}
use Rattle.master_model.specs.Recovery.{WrittenRow, page_stamp}
use Rattle.master_recovery.specs.declared.batch.Batch.{Batch}

-- With a page, with a row of the writer's, with an end.
abbrev pub with_page : Batch → ℕ → ℕ → Batch
with_page b page stamp = record b { pages = b.pages ++ page_stamp (page, stamp) ∷ [] }

abbrev pub row_named : ℕ → Row → WrittenRow
row_named table r = record { row = record { table = table; key = r.key }; txn = r.txn }

abbrev pub with_row_if : Batch → WrittenRow → Bool → Batch
with_row_if b w true = record b { rows = b.rows ++ w ∷ [] }
with_row_if b w false = b

abbrev pub with_record : ℕ → ℕ → Batch → Record → Batch
with_record writer stamp b (RowSet page prev table r) = with_row_if (with_page b page.0 stamp) (row_named table r) (nat_eq r.txn.writer.0 writer)
with_record writer stamp b (Cut page prev at) = with_page b page.0 stamp
with_record writer stamp b (Format page prev body) = with_page b page.0 stamp
with_record writer stamp b (NodeAdd page prev key child) = with_page b page.0 stamp
with_record writer stamp b (End t committed) = record b { ended = b.ended ++ t ∷ [] }
with_record writer stamp b Beat = b

abbrev pub with_records : ℕ → ℕ → Batch → List Record → Batch
with_records writer stamp b [] = b
with_records writer stamp b (r ∷ rs) = with_records writer stamp (with_record writer stamp b r) rs

abbrev pub gathered : ℕ → Batch → List Group → Batch
gathered writer b [] = b
gathered writer b (g ∷ gs) = gathered writer (with_records writer g.stamp.0 b g.records) gs
