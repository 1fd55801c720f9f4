use Rattle.std.proofs.Common.{◌≡◌, ◌++◌, take, drop}
use Rattle.tm_data.specs.declared.log.Record.{Record}
use Rattle.page_model.specs.Splits.{changed_page, placed}
use Rattle.row_tree.proofs.groups.place_for.Given as goal

abbrev pub invariant-loop-at : goal.invariant-loop-at
invariant-loop-at l =
    (change : Record) → changed_page change ≡ l.page → placed change l.records ≡ take l.at l.records ++ placed change (drop l.at l.records)
