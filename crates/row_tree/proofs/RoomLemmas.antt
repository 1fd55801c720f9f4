-- A leaf isn't full where a row fits beside all others.
use Rattle.std.proofs.Common.{◌≡◌, ◌≤◌, ◌+◌, ℕ, false, List, Option, arith}
use Rattle.std.specs.Prelude.{min, nat_lt}
use Rattle.std.proofs.lemmas.Bool.Decides.{nat_tests}
use Rattle.tm_data.specs.declared.row.Row.{Row}
use Rattle.tm_data.specs.declared.image.Body.TheVariants.{Leaf}
use Rattle.tm_base.specs.Sizes.{MOST, row_size, size_with}
use Rattle.page_model.specs.Effects.{row_set}
use Rattle.page_model.proofs.PlacedLemmas.{size_set}

pub leaf_roomy : (table : ℕ) (low high : Option (List ℕ)) (rows : List Row) (new : Row) (whole total : ℕ) → whole ≡ min (size_with (Leaf table low high rows)) MOST → total ≡ min (whole + row_size new) MOST → total ≤ 8192
    → nat_lt 8192 (size_with (Leaf table low high (row_set rows new))) ≡ false
leaf_roomy table low high rows new whole total is sum small =
    let s = size_set rows new in
    let le : size_with (Leaf table low high (row_set rows new)) ≤ 8192 = omega (arith, is, sum, small, s) in
    grind (arith, nat_tests, le)
