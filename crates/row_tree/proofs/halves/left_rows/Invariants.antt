use Rattle.std.proofs.Common.{◌≡◌, ◌+◌, take, drop}
use Rattle.std.specs.Prelude.{min, sum_by}
use Rattle.tm_base.specs.Sizes.{MOST, row_size}
use Rattle.page_model.specs.Splits.{rows_reaching, left_rows}
use Rattle.row_tree.proofs.halves.left_rows.Given as goal

abbrev pub invariant-loop-at : goal.invariant-loop-at
invariant-loop-at l =
    (l.so_far ≡ min (sum_by row_size (take l.at l.rows)) MOST)
    × (rows_reaching (sum_by row_size l.rows) (sum_by row_size (take l.at l.rows)) (drop l.at l.rows) + l.at ≡ left_rows l.rows)
