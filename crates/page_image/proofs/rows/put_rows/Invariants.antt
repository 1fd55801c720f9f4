use Rattle.std.proofs.Common.{◌≡◌, ◌++◌, length, take}
use Rattle.std.specs.List.{flat_map}
use Rattle.wire_fields.specs.Spelling.{u16_bytes}
use Rattle.page_image.specs.Spelling.{row_bytes}
use Rattle.page_image.proofs.rows.put_rows.Given as goal

abbrev pub invariant-loop-row : goal.invariant-loop-row
invariant-loop-row l = l.out.items ≡ l.fn.out.items ++ (u16_bytes (length l.rows) ++ flat_map row_bytes (take l.row-index l.rows))
